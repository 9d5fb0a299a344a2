-- Marks of the instances that were found, and a list of those that wait to be gone through. It only
-- connects the code to live instances.
use Rattle.std.specs.Prelude.{ℕ, zero, suc, ◌≡◌, ◌<◌, ◌≤◌, ◌+◌, ◌⊎◌, ◌&&◌, ◌||◌}
use Rattle.std.specs.Prelude.{Bool, true, false, not, List, [], length, vec_capacity}
use Rattle.std.specs.Prelude.{nat_eq, slice_index_or, count_by, Contains}
use Rattle.std.specs.List.{list_any}
use Rattle.std.specs.Option.{option_map_or}
use Rattle.rn_value.specs.declared.value.Value.{Value}
use Rattle.rn_model.specs.Liveness.{mentions}
use Rattle.rn_model.specs.Markings.{Marking, IsThere, instance_at, net_of}
use Rattle.rn_live.specs.declared.found.Found.{Found}
use Rattle.rn_live.specs.Rooms.{is_marked}

abbrev pub is_unmarked : List Bool → ℕ → Bool
is_unmarked marks n = not (is_marked marks n)

abbrev pub Marked : List Bool → ℕ → Type 0
Marked marks n = is_marked marks n ≡ true

-- the tokens of each place of an instance, and no place where it isn't there
abbrev pub places_of : Marking → ℕ → List (List Value)
places_of m n = option_map_or (λ i. i.places) (instance_at m n) []

-- whether an instance occurs in a token of another
abbrev pub holds : Marking → ℕ → ℕ → Bool
holds m holder n =
    list_any (λ tokens. list_any (λ token. mentions token n) tokens) (places_of m holder)

-- whether the second number is the first, and the net of its instance is one of these
abbrev pub is_start : Marking → List Bool → ℕ → ℕ → Bool
is_start m starting k n =
    nat_eq k n && option_map_or (λ net. slice_index_or starting net false) (net_of m k) false

-- whether a number is one below an end, and the net of its instance is one of these
abbrev pub is_start_below : Marking → List Bool → ℕ → ℕ → Bool
is_start_below m starting zero n = false
is_start_below m starting (suc end) n =
    is_start_below m starting end n || is_start m starting end n

-- New marks and a longer list: of the numbers that pass the test and are there, all are marked, and
-- those that weren't yet wait now, and no others. Each mark is one number more that waits. The room
-- for numbers that wait stays.
pub record Finds (m : Marking) (test : ℕ → Bool) (marks new : List Bool)
    (waiting longer : List ℕ) (room left : ℕ) : Type 0 where
  pub size : length new ≡ length marks
  pub work : length longer + count_by not new ≡ length waiting + count_by not marks
  pub room_stays : left ≡ room
  pub stay : (n : ℕ) → Marked marks n → Marked new n
  pub wait : (n : ℕ) → Contains waiting n → Contains longer n
  pub came : (n : ℕ) → Marked new n →
      Marked marks n ⊎ (Contains longer n × ((test n ≡ true) × IsThere m n))
  pub due : (n : ℕ) → Contains longer n →
      Contains waiting n ⊎ ((test n ≡ true) × IsThere m n)
  pub all : (n : ℕ) → test n ≡ true → IsThere m n → n < length marks → Marked new n

-- the same of what was found
abbrev pub FindsIn : Marking → (ℕ → Bool) → Found → Found → Type 0
FindsIn m test old new =
    Finds m test old.marks.items new.marks.items old.waiting.items new.waiting.items
    (vec_capacity old.waiting) (vec_capacity new.waiting)

-- there is room to wait for each number that waits or isn't marked yet
abbrev pub HasRoom : Found → Type 0
HasRoom found =
    length found.waiting.items + count_by not found.marks.items ≤ vec_capacity found.waiting
