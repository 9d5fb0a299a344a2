-- The names of the nets of instances, and the values whose instances have one.
use Rattle.std.specs.Prelude.{ℕ, ◌-◌, ◌&&◌, nat_eq, nat_le, Bool, true, false, if◌then◌else◌, List, length, Option, None, slice_get, IsTrue}
use Rattle.std.specs.List.{list_all}
use Rattle.rn_value.specs.declared.value.InstRef.{InstRef}
use Rattle.rn_value.specs.declared.value.InstRef.TheVariants.{Old, New}
use Rattle.rn_value.specs.declared.value.Value.{Value, fold-Value}
use Rattle.rn_value.specs.declared.value.Value.TheOpen as V

-- the name that belongs to the instance with this number, from 1
abbrev pub name_of : List (List ℕ) → ℕ → Option (List ℕ)
name_of names number = if nat_eq number 0 then None else slice_get names (number - 1)

-- an existing instance, with a number from 1 to this one
abbrev pub inst_within : InstRef → ℕ → Bool
inst_within (Old number) last = nat_le 1 number && nat_le number last
inst_within (New path index) last = false

-- All instances in the items are within. (This is one layer, where each item is given by its test.)
abbrev pub within_step : V.Value-F (ℕ → Bool) → ℕ → Bool
within_step (V.Int n) last = true
within_step (V.Text s) last = true
within_step (V.Tuple items) last = list_all (λ within. within last) items
within_step (V.List items) last = list_all (λ within. within last) items
within_step (V.Inst i) last = inst_within i last

-- each instance in the value exists, and its number is from 1 to this one
abbrev pub instances_within : Value → ℕ → Bool
instances_within = fold-Value (ℕ → Bool) within_step

-- each instance in the value exists, and has a name among these
abbrev pub AreNamed : List (List ℕ) → Value → Type 0
AreNamed names v = IsTrue (instances_within v (length names))
