-- It goes on, whatever the first arcs came to.
use Rattle.std.proofs.Common.{length}
use Rattle.rn_looking.specs.link.Views.{NodeLooked}
use Rattle.rn_looking.specs.Looks.{Urges}
use Rattle.rn_looking.specs.Things.{IsOnArcs}
use Rattle.rn_looking.proofs.arcs.look_by_guards.Given as goal

abbrev pub invariant-loop-k : goal.invariant-loop-k
invariant-loop-k l = record {
  urges : Urges l.best;
  looked : NodeLooked l.at (IsOnArcs l.at.head.now (length l.at.transition.now.arcs)) l.best;
}
