use Rattle.rn_inscript.proofs.Names.{[], refl, ap, arith}
use Rattle.rn_inscript.specs.declared.inscriptions.PInscribed.TheVariants as I
use Rattle.rn_inscript.proofs.FormReading.{arc_word, arc-end-ends}
use Rattle.rn_inscript.proofs.WithTokens.{with_name_read, with_name_fails, or_kind_read, not_kind}
use Rattle.rn_inscript.proofs.BracketSteps.{done_fails, done_read}
use Rattle.rn_inscript.proofs.StageLemmas.{so_far, first_left}
use Rattle.rn_inscript.proofs.InscriptionPhrases.{ArcEnd}
use Rattle.rn_inscript.proofs.ReaderExits.{err-of, ended_at}
use Rattle.rn_inscript.proofs.forms.arc.Goals as goal

pub returns-in_err-place-clause-reads : goal.returns-in_err-place-clause-reads
returns-in_err-place-clause-reads c = rw (err-of c.from_residual.ensures.1) (with_name_fails (ArcEnd c.args.kind) _ _ _ (arc_word _ _ _ _ c.requires.next c.requires.kind c.past.ensures) (omega (arith, c.requires.next.1, ap (λ s. s.at) c.past.ensures)) (arc-end-ends _) c.in_err-place.ensures)

pub returns-in_err-e-in-Some-clause-reads : goal.returns-in_err-e-in-Some-clause-reads
returns-in_err-e-in-Some-clause-reads c = rw (err-of c.from_residual-in_err-e-in-Some.ensures.1) (done_fails _ _ (omega arith) (or_kind_read _ _ _ (with_name_read (ArcEnd c.args.kind) _ _ _ _ (arc_word _ _ _ _ c.requires.next c.requires.kind c.past.ensures) c.in_ok-place.ensures.0 c.in_ok-place.ensures.1) c.in-Some.ensures.0 c.in-Some.ensures.1 (omega arith) refl refl) (c.in_err-e-in-Some.ensures.reads [] refl refl))

pub returns-in_ok-e-in-Some-clause-reads : goal.returns-in_ok-e-in-Some-clause-reads
returns-in_ok-e-in-Some-clause-reads c = done_read (omega arith) (or_kind_read _ _ _ (with_name_read (ArcEnd c.args.kind) _ _ _ _ (arc_word _ _ _ _ c.requires.next c.requires.kind c.past.ensures) c.in_ok-place.ensures.0 c.in_ok-place.ensures.1) c.in-Some.ensures.0 c.in-Some.ensures.1 (omega arith) refl refl) (c.in_ok-e-in-Some.ensures.reads [] refl refl)

pub returns-in-None-clause-reads : goal.returns-in-None-clause-reads
returns-in-None-clause-reads c = ended_at (ap (λ x. I.Arc c.args.kind c.in_ok-place.place x) c.absent-inscription.ensures) refl (so_far (first_left (with_name_read (ArcEnd c.args.kind) _ _ _ _ (arc_word _ _ _ _ c.requires.next c.requires.kind c.past.ensures) c.in_ok-place.ensures.0 c.in_ok-place.ensures.1) (not_kind _ c.args.tokens.now c.in_ok-place.after.at c.in-None.ensures)))
