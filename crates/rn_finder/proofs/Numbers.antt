-- Going through ascending numbers by the first one from a number on.
use Rattle.std.proofs.Common.{◌≡◌, ◌≤◌, ◌<◌, ℕ, zero, suc, List, [], ◌∷◌, map, length}
use Rattle.std.proofs.Common.{Bool, true, false, subst, refl, ap, arith, ◌⊎◌, cond}
use Rattle.std.specs.Prelude.{Some, None, Contains, AllPairs, filter, find, nat_le}
use Rattle.std.specs.List.Sorted.{IsStrictlyIncreasing}
use Rattle.std.proofs.lemmas.Bool.Decides.{nat_tests}
use Rattle.std.proofs.lemmas.List.Elements.{All-map}
use Rattle.std.proofs.lemmas.List.{get_or-map}
use Rattle.std.proofs.lemmas.List.Kept.{AllPairs-from_increasing, AllPairs-filter, AllPairs-cons}
use Rattle.rn_model.proofs.EnablingLemmas.{not_in_nil}
use Rattle.rn_items.proofs.Lists.{pairs_head, pairs_tail}

-- a number is less than another, or isn't
pub less_or_not : (n k : ℕ) → (n < k) ⊎ (k ≤ n)
less_or_not n k = grind arith

-- pairs of the results of a function, and of what it is applied to
mapped_pairs : {X Y : Type 0} (R : Y → Y → Type 0) (f : X → Y) (xs : List X) →
    AllPairs (λ a b. R (f a) (f b)) xs → AllPairs R (map f xs)
mapped_pairs R f [] pairs = λ i j d less within. absurd (omega (arith, within))
mapped_pairs R f (x ∷ xs) pairs =
    AllPairs-cons R (f x) (map f xs)
    (All-map (R (f x)) f xs (pairs_head (λ a b. R (f a) (f b)) x xs pairs))
    (mapped_pairs R f xs (pairs_tail (λ a b. R (f a) (f b)) x xs pairs))

pairs_before : {X Y : Type 0} (R : Y → Y → Type 0) (f : X → Y) (xs : List X) →
    AllPairs R (map f xs) → AllPairs (λ a b. R (f a) (f b)) xs
pairs_before R f [] pairs = λ i j d less within. absurd (omega (arith, within))
pairs_before R f (x ∷ xs) pairs =
    AllPairs-cons (λ a b. R (f a) (f b)) x xs
    (λ k d within. subst (R (f x)) (get_or-map f xs k d (f d) within)
    (pairs 0 (suc k) (f d) (omega arith) (omega (arith, length_of f xs))))
    (pairs_before R f xs (pairs_tail R (f x) (map f xs) pairs))
  where
    length_of : {A B : Type 0} (g : A → B) (ys : List A) → length (map g ys) ≡ length ys
    length_of g [] = refl
    length_of g (y ∷ ys) = ap suc (length_of g ys)

-- of ascending numbers some still ascend
pub chosen_ascend : {X : Type 0} (f : X → ℕ) (p : X → Bool) (xs : List X) →
    IsStrictlyIncreasing (map f xs) → AllPairs (λ m n. m < n) (map f (filter p xs))
chosen_ascend f p xs rise =
    mapped_pairs (λ m n. m < n) f (filter p xs)
    (AllPairs-filter (λ a b. f a < f b) p xs
    (pairs_before (λ m n. m < n) f xs (AllPairs-from_increasing (map f xs) rise)))

-- The first of ascending numbers that isn't below another: all that are below it are below that
-- other too.
pub first_from : (from : ℕ) (xs : List ℕ) (n : ℕ) → AllPairs (λ m n. m < n) xs →
    find (λ n. nat_le from n) xs ≡ Some n →
    (from ≤ n) × ((k : ℕ) → Contains xs k → k < n → k < from)
first_from from [] n rise is = absurd (let no : ⊥ = cc in no)
first_from from (x ∷ xs) n rise is =
    elim (nat_le from x) as (λ least. nat_le from x ≡ least →
    cond least (Some x) (find (λ n. nat_le from n) xs) ≡ Some n →
    (from ≤ n) × ((k : ℕ) → Contains (x ∷ xs) k → k < n → k < from)) [
      | true ↦ λ least first.
          let same : x ≡ n = cc in
          let from_here : from ≤ x = grind (arith, nat_tests) in (
            omega arith,
            λ k there below. absurd (not_before x xs k rise there (omega arith)),
          )
      | false ↦ λ less later.
          let under : x < from = grind (arith, nat_tests) in
          let rest = first_from from xs n (pairs_tail (λ m n. m < n) x xs rise) later in (
            rest.0,
            λ k there below. by_place k there below under rest.1,
          )
    ] refl is
  where
    not_before : (y : ℕ) (ys : List ℕ) (k : ℕ) → AllPairs (λ m n. m < n) (y ∷ ys) →
        Contains (y ∷ ys) k → k < y → ⊥
    not_before y ys k up (zero, within, at) less = omega (arith, at)
    not_before y ys k up (suc i, within, at) less =
        let above = up 0 (suc i) k (omega arith) within in omega (arith, at)

    by_place : (k : ℕ) → Contains (x ∷ xs) k → k < n → x < from →
        ((j : ℕ) → Contains xs j → j < n → j < from) → k < from
    by_place k (zero, within, at) below under rest = omega (arith, at)
    by_place k (suc i, within, at) below under rest = rest k (i, omega (arith, within), at) below

-- where there is none, all are below it
pub none_from : (from : ℕ) (xs : List ℕ) → find (λ n. nat_le from n) xs ≡ None → (k : ℕ) →
    Contains xs k → k < from
none_from from [] is k there = absurd (not_in_nil k there)
none_from from (x ∷ xs) is k there =
    elim (nat_le from x) as (λ least. nat_le from x ≡ least →
    cond least (Some x) (find (λ n. nat_le from n) xs) ≡ None → k < from) [
      | true ↦ λ least first. absurd (let no : ⊥ = cc in no)
      | false ↦ λ less later.
          let under : x < from = grind (arith, nat_tests) in
          by_place there under (λ rest. none_from from xs later k rest)
    ] refl is
  where
    by_place : Contains (x ∷ xs) k → x < from → (Contains xs k → k < from) → k < from
    by_place (zero, within, at) under rest = omega (arith, at)
    by_place (suc i, within, at) under rest = rest (i, omega (arith, within), at)
