-- How a store is kept: its links beside its notes, so that each is found at once, beside each
-- term the last list with a tail up to it, beside each id where the lists that end there begin,
-- beside each term whether no variable stands in it, and beside ids their levels.
use Rattle.std.specs.Prelude.{ℕ, zero, suc, ◌≡◌, ◌≢◌, ◌<◌, ◌≤◌, ◌⊎◌, Bool, true, false, List}
use Rattle.std.specs.Prelude.{Option, Some, None, length, slice_index_or, take}
use Rattle.std.specs.List.{Contains}
use Rattle.rn_term.specs.declared.term.Term.{Term}
use Rattle.rn_term.specs.declared.term.Term.TheVariants as T
use Rattle.rn_term.specs.Stores.{State, link_of, term_at, Leads}
use Rattle.rn_term.specs.Assignments.{Keeps}
use Rattle.rn_term.specs.Occurring.{Occurs, parts_of}

-- the links are those of the notes, and past their end there is none
abbrev pub AreLinks : List (Option ℕ) → List (ℕ × ℕ) → Type 0
AreLinks links notes = (id : ℕ) → slice_index_or links id None ≡ link_of notes id

-- a note of one of so many variables, which wasn't bound before
pub record IsFresh (size : ℕ) (before : List (ℕ × ℕ)) (note : ℕ × ℕ) : Type 0 where
  pub within : note.0 < size
  pub fresh : link_of before note.0 ≡ None

-- each note is of a variable that wasn't bound before
abbrev pub AreFresh : ℕ → List (ℕ × ℕ) → Type 0
AreFresh size notes =
    (k : ℕ) → k < length notes → IsFresh size (take k notes) (slice_index_or notes k (0, 0))

-- the index of a term that is a list before a tail, or another index
abbrev pub or_cons : Term → ℕ → Option ℕ → Option ℕ
or_cons (T.Cons ids tail) n before = Some n
or_cons _ n before = before

-- the last list before a tail among the first terms
abbrev pub last_cons : List Term → ℕ → Option ℕ
last_cons terms zero = None
last_cons terms (suc n) = or_cons (slice_index_or terms n T.Free) n (last_cons terms n)

-- beside each term stands the last list before a tail up to it
abbrev pub AreLastLists : List (Option ℕ) → List Term → Type 0
AreLastLists lists terms = (id : ℕ) → id < length terms →
    slice_index_or lists id None ≡ last_cons terms (suc id)

-- no list before a tail that has an id below this one ends in a variable
abbrev pub HasNoListBelow : State → ℕ → ℕ → Type 0
HasNoListBelow s var floor = (list : ℕ) (ids : List ℕ) (tail : ℕ) →
    slice_index_or s.terms list T.Free ≡ T.Cons ids tail → Leads s.notes tail var → floor ≤ list

-- the number that stands beside an id, and 0 where there is none
abbrev pub floor_of : List ℕ → ℕ → ℕ
floor_of floors id = slice_index_or floors id 0

-- no list with an id below what stands beside a variable ends there
abbrev pub AreFloors : List ℕ → State → Type 0
AreFloors floors s = (id : ℕ) → HasNoListBelow s id (floor_of floors id)

-- as many numbers, of which none rose
pub record AreLowered (before after : List ℕ) : Type 0 where
  pub each : length after ≡ length before
  pub lower : (id : ℕ) → floor_of after id ≤ floor_of before id

-- beside each id to which links lead stands no more than a number
abbrev pub IsLowAlong : List (ℕ × ℕ) → ℕ → ℕ → List ℕ → Type 0
IsLowAlong notes from floor floors = (id : ℕ) → Leads notes from id → floor_of floors id ≤ floor

-- no variable occurs in an id, free or bound
abbrev pub IsClosed : State → ℕ → Type 0
IsClosed s id = (part : ℕ) → Occurs s part id → term_at s part ≢ T.Free

-- an id beside which it stands that no variable occurs in it
abbrev pub IsFlagged : List Bool → ℕ → Type 0
IsFlagged flags id = slice_index_or flags id false ≡ true

-- a term is no variable, and all of its parts are flagged
abbrev pub IsBuiltOfFlagged : List Bool → Term → Type 0
IsBuiltOfFlagged flags t =
    (t ≢ T.Free) × ((part : ℕ) → Contains (parts_of t) part → IsFlagged flags part)

-- only such terms are flagged
abbrev pub AreFlags : List Bool → List Term → Type 0
AreFlags flags terms = (id : ℕ) → IsFlagged flags id →
    IsBuiltOfFlagged flags (slice_index_or terms id T.Free)

-- the level that stands beside an id, and 0 where there is none
abbrev pub level_of : List ℕ → ℕ → ℕ
level_of levels id = slice_index_or levels id 0

-- an id is a part of a term, or a variable was bound to it
abbrev pub IsUnder : State → ℕ → ℕ → Type 0
IsUnder s id under = Contains (parts_of (term_at s id)) under ⊎ (link_of s.notes id ≡ Some under)

-- Levels go no lower from a term to its parts, nor from a variable to what it was bound to, but for
-- what is flagged.
abbrev pub AreLevels : List ℕ → List Bool → State → Type 0
AreLevels levels flags s = (id under : ℕ) → IsUnder s id under →
    IsFlagged flags under ⊎ (level_of levels id ≤ level_of levels under)

-- the store is sound, and has one link, one last list, one floor, one flag and at most one level
-- for each term
pub record KeepsAll
    (terms : List Term) (links lists : List (Option ℕ)) (floors : List ℕ) (flags : List Bool)
    (levels : List ℕ) (notes : List (ℕ × ℕ)) : Type 0 where
  pub sound : Keeps (record { terms = terms; notes = notes })
  pub each : length links ≡ length terms
  pub linked : AreLinks links notes
  pub counted : length lists ≡ length terms
  pub last : AreLastLists lists terms
  pub measured : length floors ≡ length terms
  pub floored : AreFloors floors (record { terms = terms; notes = notes })
  pub marked : length flags ≡ length terms
  pub flagged : AreFlags flags terms
  pub few : length levels ≤ length terms
  pub leveled : AreLevels levels flags (record { terms = terms; notes = notes })
