-- The setting in which the proofs of the steps stand: the table's state, of seats with views.
use Rattle.std.proofs.Common.{List, Option}
use mathlib.Core.Option as maybe
use Rattle.atomic_table.specs.Table.{State}
use Rattle.rn_desk.specs.declared.view.SeatView.{SeatView}

-- the state of a desk's table
abbrev pub BoardState : Type 0 → Type 0 → Type 0 → Type 0
BoardState S I F = State (Option S) (SeatView I F)

-- what lies in the slots, where nothing was taken out
abbrev pub Homes : Type 0 → Type 0
Homes S = List (maybe.Option (Option S))
