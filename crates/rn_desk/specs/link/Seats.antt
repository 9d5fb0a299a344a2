-- What clauses read of a seat at a desk's table.
use Rattle.std.specs.Prelude.{◌≡◌, ℕ, List, [], ◌∷◌, length, Option, Some, None}
use Rattle.atomic_table.specs.Seated.{TableId}
use Rattle.atomic_table.specs.declared.shared.Seat.{Seat}
use Rattle.rn_desk.specs.declared.view.SeatRole.TheVariants.{Idle, Holds}
use Rattle.rn_desk.specs.declared.view.SeatView.{SeatView}
use Rattle.rn_desk.specs.Entries.{StartsWith, authored}

module _ {S I F : Type 0} where
  abbrev pub number : Seat (Option S) (SeatView I F) → ℕ
  number p = p.me.0.own.number

  abbrev pub seen : Seat (Option S) (SeatView I F) → List I
  seen p = p.me.0.own.seen

  abbrev pub mine : Seat (Option S) (SeatView I F) → List I
  mine p = p.me.0.own.mine

  -- the seat is at this table, knows what the state keeps fixed, and has taken in no other
  abbrev pub IsAt : TableId → F → Seat (Option S) (SeatView I F) → Type 0
  IsAt z f p = (p.table_id ≡ z) × (p.me.0.fixed ≡ Some f) × (p.me.0.others ≡ [])

  -- the seat has no turn and waits for none
  abbrev pub IsIdle : Seat (Option S) (SeatView I F) → Type 0
  IsIdle p = (p.me.0.role ≡ Idle) × (p.me.1 ≡ [])

  -- the seat has a turn that began with so many entries, and its state was taken out
  abbrev pub HasTurn : Seat (Option S) (SeatView I F) → ℕ → Type 0
  HasTurn p n = ((t : ℕ) × (p.me.0.role ≡ Holds t)) × (p.me.1 ≡ (0, None) ∷ [])
      × (n ≡ length p.me.0.own.seen)

  -- the seat has this number and no turn
  abbrev pub IsBack : TableId → F → ℕ → Seat (Option S) (SeatView I F) → Type 0
  IsBack z f n p = (number p ≡ n) × IsAt z f p × IsIdle p

  -- the same, and it has neither seen nor authored anything
  abbrev pub IsFresh : TableId → F → ℕ → Seat (Option S) (SeatView I F) → Type 0
  IsFresh z f n p = (number p ≡ n) × IsAt z f p × IsIdle p × (seen p ≡ []) × (mine p ≡ [])

  -- the entries begin with what the seat has seen, and what this number authored is exactly its own
  abbrev pub IsIn : (I → ℕ) → List I → ℕ → Seat (Option S) (SeatView I F) → Type 0
  IsIn author all n p = StartsWith all (seen p) × (authored author n all ≡ mine p)
