use Rattle.rn_inscript.proofs.Names.{[], refl, arith}
use Rattle.rn_inscript.proofs.FormReading.{guard_word_read}
use Rattle.rn_inscript.proofs.BracketSteps.{done_fails, done_read}
use Rattle.rn_inscript.proofs.ReaderExits.{err-of}
use Rattle.rn_inscript.proofs.forms.guard.Goals as goal

pub returns-in_err-condition-clause-reads : goal.returns-in_err-condition-clause-reads
returns-in_err-condition-clause-reads c = rw (err-of c.from_residual.ensures.1) (done_fails _ _ (omega arith) (guard_word_read _ _ _ c.requires.next c.requires.kind c.past.ensures) (c.in_err-condition.ensures.reads [] refl refl))

pub returns-clause-reads : goal.returns-clause-reads
returns-clause-reads c = done_read (omega arith) (guard_word_read _ _ _ c.requires.next c.requires.kind c.past.ensures) (c.in_ok-condition.ensures.reads [] refl refl)
