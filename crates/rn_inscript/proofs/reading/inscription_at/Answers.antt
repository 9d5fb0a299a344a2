use Rattle.rn_inscript.proofs.InscriptionFacts.{answer_to, refusal_to, not_empty}
use Rattle.rn_notation.specs.StoredTokens.{lent}
use Rattle.rn_inscript.proofs.ReaderExits.{err-of}
use Rattle.rn_inscript.proofs.reading.inscription_at.Goals as goal

pub returns-in_err-form : goal.returns-in_err-form
returns-in_err-form c = rw (err-of c.from_residual.ensures.1) (refusal_to _ _ _ c.in_err-form.ensures)

pub returns-in-Some : goal.returns-in-Some
returns-in-Some c = answer_to (lent c.in-Some.token) c.in-Some.ensures.next.0 c.in_ok-form.ensures

pub returns-in-None : goal.returns-in-None
returns-in-None c = absurd (not_empty c.in_ok-form.ensures.0 c.in-None.ensures.next)
