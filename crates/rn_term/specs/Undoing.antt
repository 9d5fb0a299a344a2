-- What a store was at an undo mark.
use Rattle.std.specs.Prelude.{◌≡◌, ◌≤◌, ◌⊎◌, ⊤, List, [], ◌∷◌, take, length}
use Rattle.rn_term.specs.declared.term.Mark.{Mark}
use Rattle.rn_term.specs.Stores.{State}

-- the mark of a store as it is
abbrev pub mark_of : State → Mark
mark_of s = record { size = length s.terms; notes = length s.notes }

-- the store with the later terms gone, and the later notes taken back
abbrev pub Rolled : State → Mark → State
Rolled s m = record { terms = take m.size s.terms; notes = take m.notes s.notes }

-- a mark that isn't later than a store: neither of its sizes is greater than the store's
abbrev pub IsNotLater : Mark → State → Type 0
IsNotLater m s = (m.size ≤ length s.terms) × (m.notes ≤ length s.notes)

-- what changed a store leaves it, at every mark that isn't later than it was, as it was there
abbrev pub LeavesEarlier : State → State → Type 0
LeavesEarlier before after = (m : Mark) → IsNotLater m before → Rolled after m ≡ Rolled before m

-- An undo mark that isn't later than a store isn't later after a call that leaves it what it was
-- there, so after any but undoing.
abbrev pub MarksStay : Type 0
MarksStay = (before after : State) (m : Mark) → LeavesEarlier before after → IsNotLater m before →
    IsNotLater m after

-- one change of a store: by a call that leaves earlier marks as they were, or by undoing to a mark
abbrev pub Changes : State → State → Type 0
Changes before after =
    LeavesEarlier before after ⊎ ((to : Mark) × IsNotLater to before × (after ≡ Rolled before to))

-- Changes of a store, one after the other, by which it never became earlier than a mark: no earlier
-- mark was undone.
abbrev pub IsSince : Mark → State → List State → Type 0
IsSince m s [] = ⊤
IsSince m s (next ∷ later) = Changes s next × IsNotLater m next × IsSince m next later

-- the store after such changes
abbrev pub last_of : State → List State → State
last_of s [] = s
last_of s (next ∷ later) = last_of next later

-- Where no earlier mark was undone since a mark was taken, it leads back to the store as it was.
abbrev pub MarksLeadBack : Type 0
MarksLeadBack = (s : State) (later : List State) → IsSince (mark_of s) s later →
    Rolled (last_of s later) (mark_of s) ≡ s
