-- The values so far.
use Rattle.std.proofs.Common.{take}
use Rattle.rn_branch.specs.Making.{AreValues}
use Rattle.rn_branch.proofs.made.values_of.Given as goal

abbrev pub invariant-loop-x : goal.invariant-loop-x
invariant-loop-x l = AreValues l.growing l.path (take l.x-index l.vars) l.values.items
