-- What rose in one call rose in all of those around it.
use Rattle.std.proofs.Common.{ℕ, ◌≤◌, arith, inl, inr}
use Rattle.rn_outside.specs.Faults.{Rose, risen}

-- later calls don't undo it
pub Rose-later : (a b c : ℕ) → Rose a b → b ≤ c → Rose a c
Rose-later a b c (inl rose) later = inl (omega arith)
Rose-later a b c (inr last) later = inr (omega arith)

-- nor do earlier ones
pub Rose-earlier : (a b c : ℕ) → a ≤ b → Rose b c → Rose a c
Rose-earlier a b c earlier (inl rose) = inl (omega arith)
Rose-earlier a b c earlier (inr last) = inr last

-- one more fault is a rise
pub Rose-risen : (count : ℕ) → Rose count (risen count)
Rose-risen count = grind arith

pub ruleset rises = (Rose-later, Rose-earlier, Rose-risen)
