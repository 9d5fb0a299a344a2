use Rattle.rn_inscript.proofs.Names.{refl, ◌∙◌, ap, arith, name_at, past, Done}
use Rattle.rn_inscript.specs.declared.inscriptions.PInscribed.TheVariants as I
use Rattle.rn_inscript.proofs.LinkReading.{new-stage}
use Rattle.rn_inscript.proofs.WithTokens.{with_name_read, with_name_fails}
use Rattle.rn_inscript.proofs.BracketSteps.{can_end_done}
use Rattle.rn_inscript.proofs.StageLemmas.{so_far}
use Rattle.rn_inscript.proofs.ReaderExits.{err-of, ended_at}
use Rattle.rn_inscript.proofs.forms.creation.Goals as goal

pub returns-in_err-net-clause-reads : goal.returns-in_err-net-clause-reads
returns-in_err-net-clause-reads c = rw (err-of c.from_residual.ensures.1) (with_name_fails (λ net. Done (I.New (name_at c.args.token.spot c.args.name.now) net)) _ _ _ (new-stage _ _ _ _ c.requires.next c.requires.kind c.requires.follows c.requires.new (c.past-3.ensures ∙ ap past (c.past-2.ensures ∙ ap past c.past.ensures))) (omega (arith, c.requires.new.1.1, ap (λ s. s.at) (c.past-3.ensures ∙ ap past (c.past-2.ensures ∙ ap past c.past.ensures)))) (λ p. can_end_done _) c.in_err-net.ensures)

pub returns-clause-reads : goal.returns-clause-reads
returns-clause-reads c = ended_at (ap (λ s. I.New (name_at c.args.token.spot s) c.in_ok-net.net) c.in_ok-text.ensures) refl (so_far (with_name_read (λ net. Done (I.New (name_at c.args.token.spot c.args.name.now) net)) _ _ _ _ (new-stage _ _ _ _ c.requires.next c.requires.kind c.requires.follows c.requires.new (c.past-3.ensures ∙ ap past (c.past-2.ensures ∙ ap past c.past.ensures))) c.in_ok-net.ensures.0 c.in_ok-net.ensures.1))
