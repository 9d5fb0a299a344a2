-- Instances of which it is known that no enabled binding starts with them.
use Rattle.std.specs.Prelude.{ℕ, ◌≡◌, ◌/◌, ◌%◌, true, List, slice_index_or}
use Rattle.rn_model.specs.declared.system.System.{System}
use Rattle.rn_model.specs.Markings.{Marking}
use Rattle.rn_bag.specs.Words.{has_bit}
use Rattle.rn_finder.specs.Starting.{IsNoStartIn}

-- a number is in a set that stands as words of 64 bits
abbrev pub IsIn : List ℕ → ℕ → Type 0
IsIn words n = has_bit (slice_index_or words (n / 64) 0) (n % 64) ≡ true

-- no enabled binding starts with an instance of a set
abbrev pub AreIdle : System → Marking → ℕ → List ℕ → Type 0
AreIdle system m depth idle = (n : ℕ) → IsIn idle n → IsNoStartIn system m depth n
