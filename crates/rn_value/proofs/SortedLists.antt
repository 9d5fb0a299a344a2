-- A list that ascends by a total order that is antisymmetric is determined by how often it holds each.
use Rattle.std.proofs.Common.{◌≡◌, ℕ, suc, ◌+◌, ◌<◌, Bool, true, false, cond, List, [], ◌∷◌, get_or, refl, sym, ap, subst, arith}
use Rattle.std.proofs.lemmas.Bool.{false≢true}
use Rattle.std.proofs.lemmas.List.Sums.{sum_by-cons}
use Rattle.std.proofs.lemmas.List.Sorted.{ranks_by, sorted_far, sum_by-IsPermutation}
use Rattle.std.proofs.lemmas.List.Elements.{recursion_from_All}
use Rattle.std.specs.Cmp.{IsTotalOrder, Equal-is, tied_itself}
use Rattle.std.specs.List.{AllByRecursion}
use Rattle.std.specs.List.Sorted.{IsSorted}
use Rattle.std.specs.Ordering.{is_lt, is_eq, ordering_reverse}
use Rattle.std.specs.declared.cmp.Ordering.{Ordering}
use Rattle.std.specs.declared.cmp.Ordering.TheVariants.{Less, Equal, Greater}
use Rattle.rn_value.specs.Order.{IsAntisymmetric, value_cmp}
use Rattle.rn_value.specs.link.OrderLaws.{value_cmp-total, value_cmp-apart}
use Rattle.rn_value.specs.Sorting.{count_of, SortsOneWay, SortsByCounts}

-- 1 for a test that passes
abbrev one_if : Bool → ℕ
one_if t = cond t 1 0

-- neither_way of two comparisons, which are each other's reverse, is Less
pub neither_way : (r s : Ordering) → r ≡ ordering_reverse s → is_lt r ≡ false → is_lt s ≡ false → r ≡ Equal
neither_way Less s e p q = absurd (false≢true (sym p))
neither_way Equal s e p q = refl
neither_way Greater Less e p q = absurd (false≢true (sym q))
neither_way Greater Equal e p q = cc
neither_way Greater Greater e p q = cc

module _ {A : Type 0} (cmp : A → A → Ordering) (total : IsTotalOrder cmp) (apart : IsAntisymmetric cmp) where
  count_of-cons : (z x : A) (xs : List A) → count_of cmp z (x ∷ xs) ≡ one_if (is_eq (cmp z x)) + count_of cmp z xs
  count_of-cons z x xs = sum_by-cons (λ y. one_if (is_eq (cmp z y))) x xs

  -- what holds of each element holds of one that is counted
  counted : (P : A → Type 0) (z : A) (xs : List A) → AllByRecursion P xs → 0 < count_of cmp z xs → P z
  counted P z [] all low = absurd (omega arith)
  counted P z (x ∷ xs) all low = elim (is_eq (cmp z x)) as (λ t. is_eq (cmp z x) ≡ t → P z) [
    | true ↦ λ e. subst P (sym (apart z x ((Equal-is (cmp z x)).0 e))) all.0
    | false ↦ λ e. counted P z xs all.1
        (let none : one_if (is_eq (cmp z x)) ≡ 0 = ap one_if e in
        let more : count_of cmp z (x ∷ xs) ≡ one_if (is_eq (cmp z x)) + count_of cmp z xs = count_of-cons z x xs in
        omega arith)
  ] refl

  counts_itself : (x : A) (xs : List A) → 0 < count_of cmp x (x ∷ xs)
  counts_itself x xs =
      let itself : one_if (is_eq (cmp x x)) ≡ 1 = ap one_if ((Equal-is (cmp x x)).1 (tied_itself total x)) in
      let more : count_of cmp x (x ∷ xs) ≡ one_if (is_eq (cmp x x)) + count_of cmp x xs = count_of-cons x x xs in
      omega arith

  -- the first of an ascending list is no greater than any of it
  first_least : (x : A) (xs : List A) → IsSorted cmp (x ∷ xs) → AllByRecursion (λ z. is_lt (cmp z x) ≡ false) (x ∷ xs)
  first_least x xs up =
      recursion_from_All (λ z. is_lt (cmp z x) ≡ false) (x ∷ xs) (λ k d low.
      sorted_far (λ x y. is_lt (cmp x y)) (ranks_by total (λ x. x)) (x ∷ xs) up 0 k d (omega arith) low)

  rest_sorted : (x : A) (xs : List A) → IsSorted cmp (x ∷ xs) → IsSorted cmp xs
  rest_sorted x xs up = λ k d low high.
      let e : suc k + 1 ≡ suc (k + 1) = omega arith in
      let here = up (suc k) d (omega arith) (omega arith) in
      subst (λ j. is_lt (cmp (get_or (x ∷ xs) j d) (get_or xs k d)) ≡ false) e here

  neither_less : (x y : A) → is_lt (cmp x y) ≡ false → is_lt (cmp y x) ≡ false → x ≡ y
  neither_less x y p q = apart x y (neither_way (cmp x y) (cmp y x) (total.antisymm x y) p q)

  -- two ascending lists that hold each element equally often are equal
  pub by_counts : SortsByCounts cmp
  by_counts [] [] up down same = refl
  by_counts [] (y ∷ ys) up down same =
      let low : 0 < count_of cmp y (y ∷ ys) = counts_itself y ys in
      let e : 0 ≡ count_of cmp y (y ∷ ys) = same y in
      absurd (omega arith)
  by_counts (x ∷ xs) [] up down same =
      let low : 0 < count_of cmp x (x ∷ xs) = counts_itself x xs in
      let e : count_of cmp x (x ∷ xs) ≡ 0 = same x in
      absurd (omega arith)
  by_counts (x ∷ xs) (y ∷ ys) up down same =
      let above = counted (λ z. is_lt (cmp z y) ≡ false) x (y ∷ ys) (first_least y ys down) (subst (λ n. 0 < n) (same x) (counts_itself x xs)) in
      let below = counted (λ z. is_lt (cmp z x) ≡ false) y (x ∷ xs) (first_least x xs up) (subst (λ n. 0 < n) (sym (same y)) (counts_itself y ys)) in
      let first : x ≡ y = neither_less x y above below in
      let rest : xs ≡ ys = by_counts xs ys (rest_sorted x xs up) (rest_sorted y ys down) (λ z.
      let alike : one_if (is_eq (cmp z x)) ≡ one_if (is_eq (cmp z y)) = ap (λ x. one_if (is_eq (cmp z x))) first in
      let here : count_of cmp z (x ∷ xs) ≡ one_if (is_eq (cmp z x)) + count_of cmp z xs = count_of-cons z x xs in
      let there : count_of cmp z (y ∷ ys) ≡ one_if (is_eq (cmp z y)) + count_of cmp z ys = count_of-cons z y ys in
      let both : count_of cmp z (x ∷ xs) ≡ count_of cmp z (y ∷ ys) = same z in
      omega arith) in
      cc

  pub one_way : SortsOneWay cmp
  one_way xs ys up down moved = by_counts xs ys up down (λ z. sym (sum_by-IsPermutation (λ y. one_if (is_eq (cmp z y))) xs ys moved))

pub values_one_way : SortsOneWay value_cmp
values_one_way = one_way value_cmp value_cmp-total value_cmp-apart

-- so are two ascending lists of values
pub values_by_counts : SortsByCounts value_cmp
values_by_counts = by_counts value_cmp value_cmp-total value_cmp-apart
