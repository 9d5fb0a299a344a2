-- The patterns so far are the same.
use Rattle.std.proofs.Common.{◌≡◌, take}
use Rattle.rn_declared.proofs.numbered.+is.Given as goal

abbrev pub invariant-are_patterns-loop-i : goal.invariant-are_patterns-loop-i
invariant-are_patterns-loop-i g l = take l.i l.parts ≡ take l.i l.others
