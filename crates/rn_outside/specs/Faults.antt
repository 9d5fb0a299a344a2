-- Counts of faults: numbers of 64 bits that never fall, and stay at their last value.
use Rattle.std.specs.Prelude.{ℕ, ◌+◌, ◌<◌, ◌≤◌, ◌⊎◌, min}

-- the last value of a count
abbrev pub last_count : ℕ
last_count = 18446744073709551615

-- A count has risen. At its last value it can't be seen to rise any more, and counts as risen.
abbrev pub Rose : ℕ → ℕ → Type 0
Rose before now = (before < now) ⊎ (last_count ≤ now)

-- A count after one more: one up, but at its last value it stays.
abbrev pub risen : ℕ → ℕ
risen count = min (count + 1) last_count
