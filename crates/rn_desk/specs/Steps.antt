-- The kinds of step that read or change a word, and what its seat learns by each.
-- The two others take the state out of the slot that the seat holds, and put it back there.
-- A seat is its view and the slots that it holds, each with its value. The desk's one slot is slot 0.
use Rattle.std.specs.Prelude.{◌≡◌, ◌≢◌, ℕ, ◌+◌, drop, List, [], ◌∷◌, ◌++◌, length, Option, Some, None}
use mathlib.Core.Option as maybe
use Rattle.atomic_table.specs.Table.{Me, Step}
use Rattle.rn_desk.specs.declared.view.SeatRole.{SeatRole}
use Rattle.rn_desk.specs.declared.view.SeatRole.TheVariants.{Spent, Maker, Idle, Waits, Holds}
use Rattle.rn_desk.specs.declared.view.Part.{Part}
use Rattle.rn_desk.specs.declared.view.SeatView.{SeatView}
use Rattle.rn_desk.specs.Entries.{StartsWith, authored, AddsAtMostOne}
use Rattle.rn_desk.specs.Turns.{wrapped}

module _ {I : Type 0} where
  -- a part that has neither seen nor authored anything
  abbrev pub new_part : ℕ → Part I
  new_part n = record { number = n; seen = []; mine = [] }

  -- the part has seen all these entries, and what its number authored among the new ones is its own
  abbrev pub grown : (I → ℕ) → Part I → List I → Part I
  grown author p all = record {
    number = p.number;
    seen = all;
    mine = p.mine ++ authored author p.number (drop (length p.seen) all);
  }

module _ {I F : Type 0} where
  -- the seat that makes the others, when it has made so many
  abbrev pub maker : ℕ → F → SeatView I F
  maker made f = record { role = Maker made; own = new_part 0; others = []; fixed = Some f }

  abbrev pub in_role : SeatRole → SeatView I F → SeatView I F
  in_role role v = record { role = role; own = v.own; others = v.others; fixed = v.fixed }

  -- the seat has the turn by this ticket, with these entries in hand
  abbrev pub with_turn : ℕ → List I → SeatView I F → SeatView I F
  with_turn t all v = record {
    role = Holds t;
    own = record { number = v.own.number; seen = all; mine = v.own.mine };
    others = v.others;
    fixed = v.fixed;
  }

  -- the seat has these entries in hand, and its own among them
  abbrev pub with_entries : (I → ℕ) → List I → SeatView I F → SeatView I F
  with_entries author all v = record { role = v.role; own = grown author v.own all; others = v.others; fixed = v.fixed }

module _ {S I F : Type 0} (entries : S → List I) (author : I → ℕ) (fixed : S → F) where
  abbrev Sat : Type 0
  Sat = Me (Option S) (SeatView I F)

  -- draw a ticket: the seat waits with the number that was found, counted on past 2^64
  abbrev pub Draws : Step (Option S) → Sat → ℕ → Sat → Type 0
  Draws st m found m' = m.0.role ≡ Idle → (t : ℕ) × (wrapped t ≡ found) × (m' ≡ (in_role (Waits t) m.0, m.1))

  -- the seat has the turn and the slot, whose state has what the seat had seen, and more
  abbrev pub GetsTurn : Sat → Sat → Type 0
  GetsTurn m m' = (t : ℕ) × (y : S) × (m.0.role ≡ Waits t) × StartsWith (entries y) m.0.own.seen
      × (m.0.fixed ≡ Some (fixed y)) × (m' ≡ (with_turn t (entries y) m.0, (0, Some y) ∷ m.1))

  -- look at serving: where it is its ticket the seat gets the turn, and else nothing
  abbrev pub Looks : Step (Option S) → Sat → ℕ → Sat → Type 0
  Looks st m found m' = (t : ℕ) → m.0.role ≡ Waits t
      → (found ≡ wrapped t → GetsTurn m m') × (found ≢ wrapped t → m' ≡ m)

  -- count an entry: the seat has the entries of the state that it announced, and its own among them
  abbrev pub Counts : Step (Option S) → Sat → ℕ → Sat → Type 0
  Counts st m found m' = (y : S) → st.said ≡ maybe.some (Some y) → m' ≡ (with_entries author (entries y) m.0, m.1)

  -- pass the turn on: the seat has no ticket and no slot any more
  abbrev pub PassesOn : Step (Option S) → Sat → ℕ → Sat → Type 0
  PassesOn st m found m' = m' ≡ (in_role Idle m.0, [])

  -- the seat has the turn, and in the slot is this state, or None while it is taken out
  abbrev pub HasTurnWith : Option S → Sat → Type 0
  HasTurnWith o m = ((t : ℕ) × (m.0.role ≡ Holds t)) × (m.1 ≡ (0, o) ∷ [])

  -- the state has the entries with which the turn began, or one more, by this seat or by none
  abbrev pub MayCount : ℕ → Option S → Sat → Type 0
  MayCount began o m = HasTurnWith None m × (began ≡ length m.0.own.seen)
      × ((y : S) × (o ≡ Some y) × AddsAtMostOne author m.0.own.number m.0.own.seen (entries y))

  -- the state is back in the slot, with just the entries in hand
  abbrev pub MayPassOn : Sat → Type 0
  MayPassOn m = (y : S) × HasTurnWith (Some y) m × (entries y ≡ m.0.own.seen) × (m.0.fixed ≡ Some (fixed y))

abbrev pub one_more : SeatRole → SeatRole
one_more (Maker n) = Maker (n + 1)
one_more r = r

abbrev pub next_number : SeatRole → ℕ
next_number (Maker n) = n + 1
next_number r = 0

module _ {I F : Type 0} where
  -- split a seat: the maker has made one more, which has the next number
  abbrev pub maker_after : SeatView I F → SeatView I F
  maker_after v = in_role (one_more v.role) v

  abbrev pub made_seat : SeatView I F → SeatView I F
  made_seat v = record { role = Idle; own = new_part (next_number v.role); others = []; fixed = v.fixed }

  -- join a seat: the one has the parts of both, and the other has none
  abbrev pub joined : SeatView I F → SeatView I F → SeatView I F
  joined v w = record { role = v.role; own = v.own; others = v.others ++ w.own ∷ w.others; fixed = v.fixed }

  abbrev pub spent : SeatView I F
  spent = record { role = Spent; own = new_part 0; others = []; fixed = None }
