-- Rows of instances with numbers. This only connects the code to the definitions.
use Rattle.std.specs.Prelude.{ℕ, List, [], ◌∷◌}
use Rattle.rn_value.specs.declared.value.InstRef.{InstRef}
use Rattle.rn_value.specs.declared.value.InstRef.TheVariants.{Old, New}
use Rattle.rn_value.specs.declared.value.Value.{Value}
use Rattle.rn_arcs.specs.declared.demands.Place2.{Place2}
use Rattle.rn_table.specs.declared.change.Row.{Row}

-- these values as a row, where the instance has a number
abbrev pub row_at : InstRef → ℕ → List Value → List Row
row_at (Old n) place vs = record { inst = n; place = place; values = vs } ∷ []
row_at (New path j) place vs = []

-- the same of a row of demands
abbrev pub numbered_row : Place2 → List Row
numbered_row r = row_at r.inst r.place r.values
