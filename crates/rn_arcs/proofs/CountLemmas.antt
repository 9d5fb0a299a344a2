-- How often a value is among ascending ones, by how many are below it and how many are at most it.
use Rattle.std.proofs.Common.{◌≡◌, ℕ, zero, suc, ◌+◌, ◌<◌, ◌≤◌, Bool, true, false, List, [], ◌∷◌}
use Rattle.std.proofs.Common.{length, get_or, refl, ap, arith}
use Rattle.std.specs.Prelude.{count_by, ◌↔◌, IsTrue}
use Rattle.std.specs.Ordering.{is_lt, is_le, is_eq, ordering_index, ordering_reverse}
use Rattle.std.specs.List.Sorted.{IsSorted, IsPartitionedBy, IsPartitionPoint}
use Rattle.std.specs.declared.cmp.Ordering.{Ordering}
use Rattle.std.specs.declared.cmp.Ordering.TheVariants.{Less, Equal, Greater}
use Rattle.std.proofs.lemmas.List.Sorted.{searchable_from_sorted}
use Rattle.std.proofs.lemmas.List.Sums.{sum_by-cons}
use Rattle.std.proofs.lemmas.Bool.{false≢true}
use Rattle.rn_value.specs.Order.{value_cmp}
use Rattle.rn_value.specs.link.OrderLaws.{value_cmp-total}
use Rattle.rn_value.specs.declared.value.Value.{Value}
use Rattle.rn_model.specs.Lists.{same_value, count_of, IsWithin}
use Rattle.rn_model.proofs.ValueLists.{one_if, count_of-cons}
use Rattle.rn_model.proofs.AskedValues.{is_counted}

-- whether a value is below this one, or at most it
abbrev pub is_below : Value → Value → Bool
is_below v w = is_lt (value_cmp w v)

abbrev pub is_up_to : Value → Value → Bool
is_up_to v w = is_le (value_cmp w v)

lower_is_less : (r s : Ordering) → ordering_index r ≤ ordering_index s → is_lt s ≡ true →
    is_lt r ≡ true
lower_is_less Less s low e = refl
lower_is_less r Equal low e = absurd (false≢true e)
lower_is_less r Greater low e = absurd (false≢true e)
lower_is_less Equal Less low e = absurd (let no : ⊥ = omega (arith, low) in no)
lower_is_less Greater Less low e = absurd (let no : ⊥ = omega (arith, low) in no)

lower_is_up_to : (r s : Ordering) → ordering_index r ≤ ordering_index s → is_le s ≡ true →
    is_le r ≡ true
lower_is_up_to Less s low e = refl
lower_is_up_to Equal s low e = refl
lower_is_up_to Greater Greater low e = absurd (false≢true e)
lower_is_up_to Greater Less low e = absurd (let no : ⊥ = omega (arith, low) in no)
lower_is_up_to Greater Equal low e = absurd (let no : ⊥ = omega (arith, low) in no)

module _ (v : Value) (xs : List Value) (up : IsSorted value_cmp xs) where
  pub below_first : IsPartitionedBy (is_below v) xs
  below_first i j d before low e =
      lower_is_less (value_cmp (get_or xs i d) v) (value_cmp (get_or xs j d) v)
      (searchable_from_sorted value_cmp-total (λ x. x) xs v up i j d before low) e

  pub up_to_first : IsPartitionedBy (is_up_to v) xs
  up_to_first i j d before low e =
      lower_is_up_to (value_cmp (get_or xs i d) v) (value_cmp (get_or xs j d) v)
      (searchable_from_sorted value_cmp-total (λ x. x) xs v up i j d before low) e

module _ (p : Value → Bool) where
  count_by-cons : (x : Value) (xs : List Value) →
      count_by p (x ∷ xs) ≡ one_if (p x) + count_by p xs
  count_by-cons x xs = sum_by-cons (λ y. one_if (p y)) x xs

  counted_up_to : (xs : List Value) (i : ℕ) → i ≤ length xs →
      ((k : ℕ) (d : Value) → k < i → p (get_or xs k d) ≡ true) →
      ((k : ℕ) (d : Value) → i ≤ k → k < length xs → p (get_or xs k d) ≡ false) →
      count_by p xs ≡ i
  counted_up_to [] i within first rest = omega (arith, within)
  counted_up_to (x ∷ xs) zero within first rest =
      let here : one_if (p x) ≡ 0 = ap one_if (rest 0 x (omega arith) (omega arith)) in
      let later : count_by p xs ≡ 0 = counted_up_to xs zero (omega arith)
      (λ k d low. absurd (let no : ⊥ = omega (arith, low) in no))
      (λ k d high low. rest (suc k) d (omega arith) (omega (arith, low))) in
      let both = count_by-cons x xs in
      omega (arith, here, later, both)
  counted_up_to (x ∷ xs) (suc i) within first rest =
      let here : one_if (p x) ≡ 1 = ap one_if (first 0 x (omega arith)) in
      let later : count_by p xs ≡ i = counted_up_to xs i (omega (arith, within))
      (λ k d low. first (suc k) d (omega (arith, low)))
      (λ k d high low. rest (suc k) d (omega (arith, high)) (omega (arith, low))) in
      let both = count_by-cons x xs in
      omega (arith, here, later, both)

-- equal, below, or neither
thirds : (r s : Ordering) → r ≡ ordering_reverse s →
    one_if (is_eq r) + one_if (is_lt s) ≡ one_if (is_le s)
thirds r Less e = ap (λ t. one_if (is_eq t) + 1) e
thirds r Equal e = ap (λ t. one_if (is_eq t) + 0) e
thirds r Greater e = ap (λ t. one_if (is_eq t) + 0) e

counts_add : (v : Value) (xs : List Value) →
    count_of v xs + count_by (is_below v) xs ≡ count_by (is_up_to v) xs
counts_add v [] = refl
counts_add v (x ∷ xs) =
    let here : one_if (same_value v x) + one_if (is_below v x) ≡ one_if (is_up_to v x) =
    thirds (value_cmp v x) (value_cmp x v) (value_cmp-total.antisymm v x) in
    let later = counts_add v xs in
    let same = count_of-cons v x xs in
    let below = count_by-cons (is_below v) x xs in
    let both = count_by-cons (is_up_to v) x xs in
    omega (arith, here, later, same, below, both)

pub counted_between : (v : Value) (xs : List Value) (i j : ℕ) → i ≤ length xs → j ≤ length xs →
    IsPartitionPoint (λ y. is_below v y ≡ true) (λ y. is_below v y ≡ false) xs i →
    IsPartitionPoint (λ y. is_up_to v y ≡ true) (λ y. is_up_to v y ≡ false) xs j →
    count_of v xs + i ≡ j
counted_between v xs i j i_in j_in low high =
    let below : count_by (is_below v) xs ≡ i = counted_up_to (is_below v) xs i i_in
    (λ k d before. low.0 k d (omega arith) before) low.1 in
    let both : count_by (is_up_to v) xs ≡ j = counted_up_to (is_up_to v) xs j j_in
    (λ k d before. high.0 k d (omega arith) before) high.1 in
    let added = counts_add v xs in
    omega (arith, below, both, added)

-- what is within nothing is nothing
within_nothing : (vs : List Value) → IsWithin vs [] → vs ≡ []
within_nothing [] within = refl
within_nothing (v ∷ vs) within =
    let there = is_counted v (v ∷ vs) (0, omega arith, refl) in
    absurd (let no : ⊥ = omega (arith, there, within v) in no)

-- a test whether a list is empty is one whether it is within the empty list
pub only_nothing : (r : Bool) (vs : List Value) → IsTrue r ↔ (vs ≡ []) →
    IsTrue r ↔ IsWithin vs []
only_nothing r vs both = (
  λ yes v. let none : count_of v vs ≡ 0 = ap (count_of v) (both.0 yes) in omega (arith, none),
  λ within. both.1 (within_nothing vs within),
)
