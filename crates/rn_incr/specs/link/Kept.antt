-- What is known of lists together: how many elements they have, and which of them aren't empty. It
-- only connects the code to them.
use Rattle.std.specs.Prelude.{ℕ, ◌≡◌, ◌≤◌, ◌⊎◌, Bool, true, false, List, [], ◌∷◌, All, Contains}
use Rattle.std.specs.Prelude.{length, flat_map, map, slice_index_or, slice_set}
use Rattle.std.specs.BTreeSet.{BTreeSet, contains}
use Rattle.std.specs.Ordering.{nat_cmp}
use Rattle.rn_model.specs.declared.binding.Binding.{Binding}
use Rattle.rn_incr.specs.declared.fresh.Fresh.{Fresh}

-- a list isn't empty
abbrev pub some_in : {X : Type 0} → List X → Bool
some_in [] = false
some_in (x ∷ xs) = true

-- the number of all elements; and no list has 2^64 of them or more
pub record IsSum {X : Type 0} (lists : List (List X)) (total : ℕ) : Type 0 where
  pub sum : total ≡ length (flat_map (λ xs. xs) lists)
  pub short : All (λ xs. length xs ≤ 18446744073709551615) lists

-- a set has just the numbers of the lists that aren't empty
abbrev pub AreBusy : {X : Type 0} → List (List X) → BTreeSet ℕ → Type 0
AreBusy lists busy = (n : ℕ) → contains nat_cmp busy n ≡ some_in (slice_index_or lists n [])

-- a set has the numbers of the lists that aren't empty, and of others none but some of those
pub record AreNear {X : Type 0} (lists : List (List X)) (those : List ℕ) (busy : BTreeSet ℕ)
    : Type 0 where
  pub has : (n : ℕ) → some_in (slice_index_or lists n []) ≡ true → contains nat_cmp busy n ≡ true
  pub few : (n : ℕ) → contains nat_cmp busy n ≡ true →
      (some_in (slice_index_or lists n []) ≡ true) ⊎ Contains those n

-- some of those numbers come to a set
pub record GrowsBy (those : List ℕ) (before after : BTreeSet ℕ) : Type 0 where
  pub stay : (n : ℕ) → contains nat_cmp before n ≡ true → contains nat_cmp after n ≡ true
  pub few : (n : ℕ) → contains nat_cmp after n ≡ true →
      (contains nat_cmp before n ≡ true) ⊎ Contains those n

-- the numbers of new lists
abbrev pub numbers_of : List Fresh → List ℕ
numbers_of fresh = map (λ f. f.number) fresh

-- each number of a new list that isn't empty is in a set
abbrev pub AreNoted : BTreeSet ℕ → List Fresh → Type 0
AreNoted busy fresh =
    All (λ f. some_in f.list ≡ true → contains nat_cmp busy f.number ≡ true) fresh

-- each new list in the place of the one of its number, where there is one; of two with one number
-- the first counts
abbrev pub put_in : List Fresh → List (List Binding) → List (List Binding)
put_in [] lists = lists
put_in (f ∷ fresh) lists = slice_set (put_in fresh lists) f.number f.list

-- the same, after empty lists have come to the end
pub record ArePut (end : ℕ) (fresh : List Fresh) (before after : List (List Binding))
    : Type 0 where
  pub room : List (List Binding)
  pub same : (n : ℕ) → slice_index_or room n [] ≡ slice_index_or before n []
  pub long : end ≤ length room
  pub put : after ≡ put_in fresh room
