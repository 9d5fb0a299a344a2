-- What a sorted list says of the values in it.
use Rattle.std.specs.Prelude.{◌≡◌, ℕ, List, count_by}
use Rattle.std.specs.Ordering.{is_eq}
use Rattle.std.specs.List.Sorted.{IsSorted, IsPermutation}
use Rattle.std.specs.declared.cmp.Ordering.{Ordering}

-- how many of these are equal to this one, by an order
abbrev pub count_of : {A : Type 0} → (A → A → Ordering) → A → List A → ℕ
count_of cmp x = count_by (λ y. is_eq (cmp x y))

-- Two ascending lists that are permutations of each other are equal.
abbrev pub SortsOneWay : {A : Type 0} → (A → A → Ordering) → Type 0
SortsOneWay {A} cmp = (xs ys : List A) → IsSorted cmp xs → IsSorted cmp ys → IsPermutation xs ys → xs ≡ ys

-- Two ascending lists that hold each value equally often are equal.
abbrev pub SortsByCounts : {A : Type 0} → (A → A → Ordering) → Type 0
SortsByCounts {A} cmp = (xs ys : List A) → IsSorted cmp xs → IsSorted cmp ys → ((x : A) → count_of cmp x xs ≡ count_of cmp x ys) → xs ≡ ys
