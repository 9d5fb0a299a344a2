-- The rows of one place. This only connects the code to the demands of bindings.
use Rattle.std.specs.Prelude.{List, map}
use Rattle.rn_value.specs.declared.value.Value.{Value}
use Rattle.rn_arcs.specs.Demanded.{one_row}
use Rattle.rn_arcs.specs.link.Groups.{place_of}
use Rattle.rn_arcs.specs.Places.{InstPlace}
use Rattle.rn_arcs.specs.declared.asked.Asked.{Asked}
use Rattle.rn_arcs.specs.declared.demands.Place2.{Place2}

abbrev pub row_of : InstPlace → List Value → Place2
row_of k vs = record { inst = k.0; place = k.1; values = vs }

-- a row of a place for each list
abbrev pub rows_of : InstPlace → List (List Value) → List Place2
rows_of k lists = map (row_of k) lists

abbrev pub taken_rows : Asked → List Place2
taken_rows g = rows_of (place_of g) (one_row g.taken)

abbrev pub tested_rows : Asked → List Place2
tested_rows g = rows_of (place_of g) (one_row g.tested)

abbrev pub inhibited_rows : Asked → List Place2
inhibited_rows g = rows_of (place_of g) (one_row g.inhibited)

abbrev pub cleared_rows : Asked → List Place2
cleared_rows g = rows_of (place_of g) g.cleared

abbrev pub put_rows : Asked → List Place2
put_rows g = rows_of (place_of g) (one_row g.put)
