-- Rows by their first lines.
use Rattle.std.specs.Prelude.{ℕ, Bool, List}
use Rattle.renew_rows.specs.declared.row.Row.{Row}

-- the name of a row, and whether it must differ
abbrev pub heading_of : Row → List ℕ × Bool
heading_of row = (row.name.items, row.must_differ)
