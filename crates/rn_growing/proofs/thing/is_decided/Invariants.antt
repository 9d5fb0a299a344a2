-- None from here on is on the thing.
use Rattle.rn_growing.specs.link.Indexed.{IsSought}
use Rattle.rn_growing.specs.Decided.{is_on}
use Rattle.rn_growing.specs.link.DecisionKeys.{thing_key}
use Rattle.rn_growing.proofs.thing.is_decided.Given as goal

abbrev pub invariant-loop-left : goal.invariant-loop-left
invariant-loop-left l = IsSought l.keys (thing_key l.thing) (is_on l.thing) l.decisions l.left

abbrev pub decreases-loop-left : goal.decreases-loop-left
decreases-loop-left l = l.left
