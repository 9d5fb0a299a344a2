use Rattle.std.proofs.Common.{◌≡◌}
use Rattle.rn_end_marking.proofs.listing.counted.Given as goal

abbrev pub invariant-loop-value : goal.invariant-loop-value
invariant-loop-value l = l.repeats ≡ l.yielded
