-- Parts of tuples by their indices.
use Rattle.std.specs.Prelude.{ℕ, ◌≡◌, Option, Some, None, slice_get}
use Rattle.rn_value.specs.declared.value.Value.{Value, out-Value}
use Rattle.rn_value.specs.declared.value.Value.TheOpen as V

-- one layer of a value: the part at an index, where it is a tuple that has one there
abbrev pub part_step : ℕ → V.Value-F Value → Option Value
part_step k (V.Tuple parts) = slice_get parts k
part_step k _ = None

-- the part of a tuple at an index, from 0
abbrev pub part_of : ℕ → Value → Option Value
part_of k v = part_step k (out-Value v)

-- a value isn't a tuple with this part at an index
abbrev pub LacksPart : ℕ → Value → Value → Type 0
LacksPart k part v = ¬ (part_of k v ≡ Some part)
