-- The patterns so far are the same.
use Rattle.std.proofs.Common.{◌≡◌, take}
use Rattle.rn_declared.proofs.known.+number.Given as goal

abbrev pub invariant-number_all-loop-pattern : goal.invariant-number_all-loop-pattern
invariant-number_all-loop-pattern g l = l.all.items ≡ take l.pattern-index l.patterns
