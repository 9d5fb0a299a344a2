use Rattle.std.proofs.Common.{length}
use Rattle.rn_unify.specs.link.Adding.{IsKnown}
use Rattle.rn_unify.proofs.BindingSteps.{IsOnTheWay}
use Rattle.rn_unify.proofs.unifying.bind_all.Given as goal

abbrev pub invariant-loop-var : goal.invariant-loop-var
invariant-loop-var l = record {
  way : IsOnTheWay l.fn.store l.fn.equations.items l.store l.rest.items l.later.items;
  known : IsKnown l.store l.newest;
}

abbrev pub decreases-loop-var : goal.decreases-loop-var
decreases-loop-var l = length l.rest.items
