-- Pages of a table, each with the words beside it.
use Rattle.std.specs.Prelude.{ℕ, zero, suc, ◌≡◌, ◌<◌, ◌≤◌, ◌+◌, ◌-◌, ◌*◌, ◌/◌, ◌%◌, Bool, true, ⊤}
use Rattle.std.specs.Prelude.{List, [], ◌∷◌, ◌++◌, length, filter, flat_map, refl, slice_index_or}
use Rattle.std.specs.Prelude.{Option, Some, find, nat_eq}
use Rattle.std.specs.Coded.{Coded, code_by, coded×, coded_ℕ, coded_list}
use Rattle.std.specs.List.{AllByRecursion}
use Rattle.std.specs.List.Sorted.{IsSorted}
use Rattle.rn_value.specs.Order.{value_cmp}
use Rattle.rn_model.specs.Markings.{Instance}
use Rattle.rn_model.specs.link.MarkingCodes.{instance_code}
use Rattle.rn_bag.specs.Slots.{there_from}
use Rattle.rn_bag.specs.Words.{has_bit}
use Rattle.rn_model.specs.Limits.{greatest_instance}
use Rattle.rn_bag.specs.declared.words.TheConstants.{ROOM}
use Rattle.rn_table.specs.declared.dir.TheConstants.{PAGES}
use Rattle.rn_table.specs.declared.leaf.Words.{Words}

-- a page with the words beside it: the instances that it holds, which of its 64 numbers are kept, and
-- which may start
pub record Leaf : Type 0 where
  pub held : List Instance
  pub kept : ℕ
  pub starting : ℕ

abbrev pub leaf_code : Coded Leaf
leaf_code =
    code_by (List Instance × (ℕ × ℕ)) (coded× (coded_list instance_code) (coded× coded_ℕ coded_ℕ))
    (λ l. (l.held, (l.kept, l.starting)))
    (λ p. record { held = p.0; kept = p.1.0; starting = p.1.1 })
    (λ _. refl)

-- the index of a number in its page
abbrev pub bit_of : ℕ → ℕ
bit_of n = (n - 1) % ROOM

-- the index of the page of a number
abbrev pub page_of : ℕ → ℕ
page_of n = (n - 1) / ROOM

-- what a page holds, where this is the word of its kept numbers: a page without kept instances counts
-- as given up, even where it is still there
abbrev pub held_if : ℕ → List Instance → List Instance
held_if zero h = []
held_if (suc w) h = h

-- a page with its words
abbrev pub leaf_with : List Instance → ℕ → ℕ → Leaf
leaf_with h w s = record { held = held_if w h; kept = w; starting = s }

-- pages with these words, where the page of an index holds what the function says
abbrev pub leaves_by : (ℕ → List Instance) → List Words → List Leaf
leaves_by h [] = []
leaves_by h (w ∷ ws) = leaf_with (h 0) w.kept w.starting ∷ leaves_by (λ i. h (suc i)) ws

-- What the page of an index holds, of directories of 32 pages each. A page that isn't there holds
-- nothing.
abbrev pub held_at : List (List (List Instance)) → ℕ → List Instance
held_at ds i = slice_index_or (slice_index_or ds (i / PAGES) []) (i % PAGES) []

-- whether a word has the number of an instance
abbrev pub has_number : ℕ → Instance → Bool
has_number word i = has_bit word (bit_of i.number)

-- the instance of a number, where it is among these
abbrev pub numbered : ℕ → List Instance → Option Instance
numbered n = find (λ i. nat_eq i.number n)

-- the kept instances of a page
abbrev pub kept_in : Leaf → List Instance
kept_in l = filter (has_number l.kept) l.held

-- the kept instances of pages
abbrev pub instances_in : List Leaf → List Instance
instances_in = flat_map kept_in

-- numbers one after another
unfoldable pub upward : ℕ → ℕ → List ℕ
upward first zero = []
upward first (suc count) = first ∷ upward (suc first) count

-- the numbers of a page that may start, where the page has this index
abbrev pub starting_of : ℕ → Leaf → List ℕ
starting_of k l = there_from (has_bit l.starting) 0 (upward (ROOM * k + 1) ROOM)

-- the numbers that may start, where the first page has this index
abbrev pub starting_from : ℕ → List Leaf → List ℕ
starting_from k [] = []
starting_from k (l ∷ ls) = starting_of k l ++ starting_from (suc k) ls

-- instances whose numbers ascend
abbrev pub Ascending : List Instance → Type 0
Ascending [] = ⊤
Ascending (i ∷ is) = AllByRecursion (λ j. i.number < j.number) is × Ascending is

-- the tokens of each place ascend
abbrev pub HasSortedPlaces : Instance → Type 0
HasSortedPlaces i = AllByRecursion (IsSorted value_cmp) i.places

-- A page of this index: it holds instances of its 64 numbers, each once and in order, and among them
-- each that is kept. None may start but those that are kept.
pub record IsLeaf (k : ℕ) (l : Leaf) : Type 0 where
  pub ascending : Ascending l.held
  pub above : AllByRecursion (λ i. ROOM * k < i.number) l.held
  pub below : AllByRecursion (λ i. i.number ≤ ROOM * k + ROOM) l.held
  pub sorted : AllByRecursion HasSortedPlaces l.held
  pub filled : (bit : ℕ) → bit < ROOM → has_bit l.kept bit ≡ true →
      (i : Instance) × (numbered (ROOM * k + bit + 1) l.held ≡ Some i)
  pub starts : (bit : ℕ) → bit < ROOM → has_bit l.starting bit ≡ true → has_bit l.kept bit ≡ true

-- pages from this index on
abbrev pub AreLeaves : ℕ → List Leaf → Type 0
AreLeaves k [] = ⊤
AreLeaves k (l ∷ ls) = IsLeaf k l × AreLeaves (suc k) ls

-- The pages of a table with this next number. There are as many pages as the numbers below it need.
pub record IsTable (next : ℕ) (ls : List Leaf) : Type 0 where
  pub leaves : AreLeaves 0 ls
  pub below : AllByRecursion (λ l. AllByRecursion (λ i. i.number < next) l.held) ls
  pub first : 1 ≤ next
  pub most : next ≤ greatest_instance + 1
  pub roomy : next ≤ ROOM * length ls + 1
  pub tight : ROOM * length ls ≤ next + 63
