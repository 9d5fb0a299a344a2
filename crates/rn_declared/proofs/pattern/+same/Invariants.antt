-- The patterns so far are the same.
use Rattle.std.proofs.Common.{◌≡◌, take}
use Rattle.rn_declared.proofs.pattern.+same.Given as goal

abbrev pub invariant-all_same-loop-i : goal.invariant-all_same-loop-i
invariant-all_same-loop-i l = take l.i l.parts ≡ take l.i l.others
