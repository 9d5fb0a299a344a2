use Rattle.rn_inscript.proofs.Names.{[], refl, ap, arith}
use Rattle.rn_inscript.proofs.FormReading.{print_word_read, set_stage, set-end-ends}
use Rattle.rn_inscript.proofs.WithTokens.{with_kind_read, with_kind_stuck, with_name_read, with_name_fails}
use Rattle.rn_inscript.proofs.BracketSteps.{done_fails, done_read}
use Rattle.rn_inscript.proofs.InscriptionPhrases.{SetEnd}
use Rattle.rn_inscript.proofs.ReaderExits.{err-of}
use Rattle.rn_inscript.proofs.forms.action.Goals as goal

pub returns-in_err-e-clause-reads : goal.returns-in_err-e-clause-reads
returns-in_err-e-clause-reads c = rw (err-of c.from_residual.ensures.1) (done_fails _ _ (omega arith) (print_word_read _ _ _ _ c.requires.next c.requires.kind c.past-after.ensures c.in-Some.ensures.0 c.in-Some.ensures.1) (c.in_err-e.ensures.reads [] refl refl))

pub returns-in-Some-clause-reads : goal.returns-in-Some-clause-reads
returns-in-Some-clause-reads c = done_read (omega arith) (print_word_read _ _ _ _ c.requires.next c.requires.kind c.past-after.ensures c.in-Some.ensures.0 c.in-Some.ensures.1) (c.in_ok-e.ensures.reads [] refl refl)

pub returns-in_err-var-clause-reads : goal.returns-in_err-var-clause-reads
returns-in_err-var-clause-reads c = rw (err-of c.from_residual-in_err-var.ensures.1) (with_name_fails SetEnd _ _ _ (set_stage _ _ _ c.requires.next c.requires.kind c.past-after.ensures c.in_default.ensures) (omega (arith, c.requires.next.1, ap (λ s. s.at) c.past-after.ensures)) set-end-ends c.in_err-var.ensures)

pub returns-in_err-start-clause-reads : goal.returns-in_err-start-clause-reads
returns-in_err-start-clause-reads c = rw (err-of c.from_residual-in_err-start.ensures.1, c.in_err-start.ensures.1) (with_kind_stuck _ _ (with_name_read SetEnd _ _ _ _ (set_stage _ _ _ c.requires.next c.requires.kind c.past-after.ensures c.in_default.ensures) c.in_ok-var.ensures.0 c.in_ok-var.ensures.1) (let h = c.in_ok-var.ensures.0 in omega (arith, h.2.1, ap (λ s. s.at) c.in_ok-var.ensures.1)) (set-end-ends _) c.in_err-start.ensures.0)

pub returns-in_err-value-clause-reads : goal.returns-in_err-value-clause-reads
returns-in_err-value-clause-reads c = rw (err-of c.from_residual-in_err-value.ensures.1) (done_fails _ _ (omega arith) (with_kind_read _ _ _ (with_name_read SetEnd _ _ _ _ (set_stage _ _ _ c.requires.next c.requires.kind c.past-after.ensures c.in_default.ensures) c.in_ok-var.ensures.0 c.in_ok-var.ensures.1) c.in_ok-start.ensures.0 c.in_ok-start.ensures.1 refl refl) (c.in_err-value.ensures.reads [] refl refl))

pub returns-clause-reads : goal.returns-clause-reads
returns-clause-reads c = done_read (omega arith) (with_kind_read _ _ _ (with_name_read SetEnd _ _ _ _ (set_stage _ _ _ c.requires.next c.requires.kind c.past-after.ensures c.in_default.ensures) c.in_ok-var.ensures.0 c.in_ok-var.ensures.1) c.in_ok-start.ensures.0 c.in_ok-start.ensures.1 refl refl) (c.in_ok-value.ensures.reads [] refl refl)
