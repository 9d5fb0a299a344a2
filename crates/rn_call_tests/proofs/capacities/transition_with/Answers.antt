-- Arc by arc.
use Rattle.std.proofs.Common.{sym, subst}
use Rattle.std.specs.Prelude.{All}
use Rattle.std.proofs.lemmas.List.Elements.{All-push}
use Rattle.rn_call_tests.proofs.PlainInscriptions.{IsPlain}
use Rattle.rn_call_tests.proofs.capacities.transition_with.Goals as goal

pub loop-kind-preserved : goal.loop-kind-preserved
loop-kind-preserved c =
    subst (All IsPlain) (sym c.in_ok-push.ensures.ok)
    (All-push IsPlain c.loop-kind.made _ c.loop-kind.invariant c.in_ok-inscribed.ensures)
