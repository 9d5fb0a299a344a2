use Rattle.rn_inscript.proofs.Names.{IsInscribed}
use Rattle.rn_inscript.proofs.ReadingFacts.{read_answer, refusal_fact}
use Rattle.rn_inscript.proofs.ReaderExits.{err-of}
use Rattle.rn_inscript.proofs.reading.form_at.Goals as goal

pub returns-in_err-form : goal.returns-in_err-form
returns-in_err-form c = rw (err-of c.from_residual.ensures.1) (refusal_fact 0 IsInscribed _ _ _ c.requires c.in_err-form.ensures.reads)

pub returns : goal.returns
returns c = read_answer c.args.tokens.now c.args.at c.in_ok-form.end c.in_ok-form.form c.requires c.in_ok-form.ensures.moved.1 c.in_ok-form.ensures.reads
