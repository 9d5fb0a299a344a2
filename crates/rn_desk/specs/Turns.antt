-- The rule of the desk: what holds between any two atomic steps, in every schedule.
-- Word 0 is the next ticket, word 1 the ticket that is served, word 2 the length of the history.
use Rattle.std.specs.Prelude.{◌≡◌, ◌⊎◌, ℕ, ◌+◌, ◌%◌, ◌^◌, ◌<◌, ◌≤◌, ◌==◌, Bool, true, false, List, [], ◌∷◌, length, Option, Some, None, if◌then◌else◌}
use mathlib.Core.Option as maybe
use lib.ListN.{get_elem?}
use Rattle.atomic_table.specs.Table.{State}
use Rattle.rn_desk.specs.declared.rule.TheConstants.{MOST_SEATS}
use Rattle.rn_desk.specs.declared.view.SeatRole.{SeatRole}
use Rattle.rn_desk.specs.declared.view.SeatRole.TheVariants.{Spent, Maker, Idle, Waits, Holds}
use Rattle.rn_desk.specs.declared.view.Part.{Part}
use Rattle.rn_desk.specs.declared.view.SeatView.{SeatView}
use Rattle.rn_desk.specs.Entries.{StartsWith, authored}

-- f of each element, added up
abbrev pub total : {A : Type 0} → (A → ℕ) → List A → ℕ
total f [] = 0
total f (x ∷ xs) = f x + total f xs

-- P holds of each element
abbrev pub Every : {A : Type 0} → (A → Type 0) → List A → Type 0
Every P [] = Unit {0}
Every P (x ∷ xs) = P x × Every P xs

-- a number as a word has it
abbrev pub wrapped : ℕ → ℕ
wrapped n = n % 2 ^ 64

-- the ticket that a seat in this role has
abbrev pub ticket_of : SeatRole → Option ℕ
ticket_of Spent = None
ticket_of (Maker n) = None
ticket_of Idle = None
ticket_of (Waits t) = Some t
ticket_of (Holds t) = Some t

-- how many tickets it has
abbrev pub tickets : SeatRole → ℕ
tickets Spent = 0
tickets (Maker n) = 0
tickets Idle = 0
tickets (Waits t) = 1
tickets (Holds t) = 1

-- whether the seat was joined into another
abbrev pub is_spent : SeatRole → Bool
is_spent Spent = true
is_spent (Maker n) = false
is_spent Idle = false
is_spent (Waits t) = false
is_spent (Holds t) = false

module _ {I : Type 0} where
  -- the parts of a seat in this role: a spent one and the maker have none
  abbrev pub parts : SeatRole → Part I → List (Part I) → List (Part I)
  parts Spent own others = []
  parts (Maker n) own others = []
  parts Idle own others = own ∷ others
  parts (Waits t) own others = own ∷ others
  parts (Holds t) own others = own ∷ others

  -- 1 where the part has this number
  abbrev pub is_number : ℕ → Part I → ℕ
  is_number n p = if p.number == n then 1 else 0

  -- the history begins with what the part has seen, and what its number authored is just its own
  abbrev pub PartFits : (I → ℕ) → List I → Part I → Type 0
  PartFits author log p = StartsWith log p.seen × (authored author p.number log ≡ p.mine)

module _ {I F : Type 0} where
  abbrev pub parts_of : SeatView I F → List (Part I)
  parts_of v = parts v.role v.own v.others

  abbrev pub parts_count : SeatView I F → ℕ
  parts_count v = length (parts_of v)

  -- how many of its parts have this number
  abbrev pub number_count : ℕ → SeatView I F → ℕ
  number_count n v = total (is_number n) (parts_of v)

  abbrev pub tickets_in : SeatView I F → ℕ
  tickets_in v = tickets v.role

  -- this seat has this ticket
  abbrev pub HasTicket : List (SeatView I F) → ℕ → ℕ → Type 0
  HasTicket views seat t = (v : SeatView I F) × (get_elem? views seat ≡ maybe.some v)
      × (ticket_of v.role ≡ Some t)

  -- this seat has the turn, by this ticket
  abbrev pub HasTurn : List (SeatView I F) → ℕ → ℕ → Type 0
  HasTurn views seat t = (v : SeatView I F) × (get_elem? views seat ≡ maybe.some v) × (v.role ≡ Holds t)

module _ {I : Type 0} (out : Type 0) (log : List I) (made drawn served : ℕ) (seat_of : ℕ → ℕ) (seat : ℕ) (own : Part I) where
  -- What holds of a seat in this role, where `out` says that the slot is out.
  -- A ticket is from `served` up to but not `drawn`, and no two seats have one, as `seat_of` names
  -- its seat. Who has the turn has the ticket `served`, so one seat at most has it; its list in hand
  -- is the history.
  abbrev pub RoleFits : SeatRole → Type 0
  RoleFits Spent = Unit {0}
  RoleFits (Maker n) = (n ≡ made) × (seat ≡ 0)
  RoleFits Idle = Unit {0}
  RoleFits (Waits t) = (served ≤ t) × (t < drawn) × (seat_of t ≡ seat)
  RoleFits (Holds t) = (t ≡ served) × (t < drawn) × (seat_of t ≡ seat) × (own.seen ≡ log) × out

module _ {S I F : Type 0} (entries : S → List I) (author : I → ℕ) (fixed : S → F) (seats : ℕ) (start : S) where
  -- the slot is at home, with a state that has just the history
  abbrev pub AtHome : List I → List (maybe.Option (Option S)) → Type 0
  AtHome log homes = (y : S) × (homes ≡ maybe.some (Some y) ∷ []) × (entries y ≡ log) × (fixed y ≡ fixed start)

  -- the slot is out, and this seat has the turn
  abbrev pub Away : ℕ → ℕ → List (SeatView I F) → List (maybe.Option (Option S)) → Type 0
  Away served seat views homes = (homes ≡ maybe.none ∷ []) × HasTurn views seat served

  pub record Turns (s : State (Option S) (SeatView I F)) : Type 0 where
    -- the history, the numbers made, the tickets drawn and served, and which seat drew each ticket
    pub log : List I
    pub made : ℕ
    pub drawn : ℕ
    pub served : ℕ
    pub seat_of : ℕ → ℕ
    -- what the words say, modulo 2^64
    pub words : s.words ≡ wrapped drawn ∷ wrapped served ∷ wrapped (length log) ∷ []
    -- what each seat knows of its ticket, and who has the turn knows of the history and the slot
    pub roles : (j : ℕ) (v : SeatView I F) → get_elem? s.views j ≡ maybe.some v
        → RoleFits (s.homes ≡ maybe.none ∷ []) log made drawn served seat_of j v.own v.role
    -- each ticket from `served` up to but not `drawn` is out, and as many seats have one
    pub queue : (t : ℕ) → served ≤ t → t < drawn → HasTicket s.views (seat_of t) t
    pub waiting : drawn ≡ served + total tickets_in s.views
    -- the slot is at home with the history, or the seat whose ticket is served has it and the turn
    pub slot : AtHome log s.homes ⊎ Away served (seat_of served) s.views s.homes
    -- a view that isn't spent has what the state keeps fixed
    pub same : (j : ℕ) (v : SeatView I F) → get_elem? s.views j ≡ maybe.some v
        → is_spent v.role ≡ false → v.fixed ≡ Some (fixed start)
    -- each number made stands in just one view, and no other number in any
    pub few : (made ≤ seats) × (seats ≤ MOST_SEATS)
    pub all_parts : total parts_count s.views ≡ made
    pub once : (n : ℕ) → 0 < n → n ≤ made → total (number_count n) s.views ≡ 1
    pub no_zero : total (number_count 0) s.views ≡ 0
    pub unmade : (n : ℕ) → made < n → total (number_count n) s.views ≡ 0
    -- the history begins with what each view has seen; what a number authored is its own in its
    -- view, also after that seat was joined into another; a number not yet made authored nothing
    pub fits : (j : ℕ) (v : SeatView I F) → get_elem? s.views j ≡ maybe.some v
        → Every (PartFits author log) (parts_of v)
    pub unwritten : (n : ℕ) → made < n → authored author n log ≡ []
