-- What clauses read of a desk, a pass and a turn.
use Rattle.std.specs.Prelude.{ℕ, List}
use Rattle.rn_desk.specs.declared.desk.Desk.{Desk}
use Rattle.rn_desk.specs.declared.desk.Pass.{Pass}
use Rattle.rn_desk.specs.declared.desk.Turn.{Turn}
use Rattle.rn_desk.specs.link.Seats as seat

module _ {S I F : Type 0} where
  -- the number of seats
  abbrev pub seats_of : Desk S I F → ℕ
  seats_of d = d.table.shared.key.seats

  -- what the state keeps fixed, where `fixed` is the meaning that its type gives
  abbrev pub fixed_of : (S → F) → Desk S I F → F
  fixed_of fixed d = fixed d.table.shared.key.state.value

  abbrev pub number : Pass S I F → ℕ
  number p = seat.number p.seat

  -- the entries that the pass has seen
  abbrev pub seen : Pass S I F → List I
  seen p = seat.seen p.seat

  -- the entries that it authored
  abbrev pub mine : Pass S I F → List I
  mine p = seat.mine p.seat

  -- the pass is of this desk
  abbrev pub IsOf : (S → F) → Desk S I F → Pass S I F → Type 0
  IsOf fixed d p = seat.IsAt d.table.shared.table_id (fixed_of fixed d) p.seat

  -- the pass holds no turn
  abbrev pub HasNoTurn : Pass S I F → Type 0
  HasNoTurn p = seat.IsIdle p.seat

  -- the pass holds this turn
  abbrev pub HasTurn : Pass S I F → Turn S → Type 0
  HasTurn p t = seat.HasTurn p.seat t.length

  -- the pass has this number, is of this desk and holds no turn
  abbrev pub IsBack : (S → F) → Desk S I F → ℕ → Pass S I F → Type 0
  IsBack fixed d n p = seat.IsBack d.table.shared.table_id (fixed_of fixed d) n p.seat

  -- the same, and it has neither seen nor authored anything
  abbrev pub IsFresh : (S → F) → Desk S I F → ℕ → Pass S I F → Type 0
  IsFresh fixed d n p = seat.IsFresh d.table.shared.table_id (fixed_of fixed d) n p.seat

  -- the entries begin with what the pass has seen, and what this number authored is exactly its own
  abbrev pub IsIn : (I → ℕ) → List I → ℕ → Pass S I F → Type 0
  IsIn author all n p = seat.IsIn author all n p.seat
