use Rattle.rn_looking.specs.link.Views.{NodeLooked}
use Rattle.rn_looking.specs.Things.{IsOnCalls}
use Rattle.rn_looking.proofs.calls.look_at_calls.Given as goal

-- what the look at the first calls came to
abbrev pub invariant-loop-i : goal.invariant-loop-i
invariant-loop-i l = NodeLooked l.at (IsOnCalls l.at.head.now l.i) l.best
