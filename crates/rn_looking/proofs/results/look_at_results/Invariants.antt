-- The operator applications so far.
use Rattle.rn_looking.specs.link.Views.{NodeLooked}
use Rattle.rn_looking.specs.Things.{IsOnHoles}
use Rattle.rn_looking.proofs.results.look_at_results.Given as goal

abbrev pub invariant-loop-k : goal.invariant-loop-k
invariant-loop-k l = NodeLooked l.at (IsOnHoles l.at.transition.now l.at.head.now l.k) l.best
