use Rattle.rn_looking.specs.link.Views.{NodeLooked}
use Rattle.rn_looking.specs.Things.{IsOnArcs}
use Rattle.rn_looking.proofs.arcs.look_at_arcs.Given as goal

-- what the look at the first arcs came to
abbrev pub invariant-loop-k : goal.invariant-loop-k
invariant-loop-k l = NodeLooked l.at (IsOnArcs l.at.head.now l.k) l.best
