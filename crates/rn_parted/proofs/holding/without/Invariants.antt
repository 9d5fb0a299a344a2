use Rattle.std.proofs.Common.{◌≢◌, ℕ, take}
use Rattle.std.specs.Prelude.{Contains}
use Rattle.rn_parted.proofs.holding.without.Given as goal

abbrev pub invariant-loop-other : goal.invariant-loop-other
invariant-loop-other l = (k : ℕ) → k ≢ l.number → Contains (take l.other-index l.numbers) k →
    Contains l.others.items k
