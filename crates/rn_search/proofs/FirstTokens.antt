-- Which tokens of an ascending list are the first of their value.
use Rattle.std.proofs.Common.{◌≡◌, ℕ, zero, suc, ◌-◌, ◌<◌, ◌≤◌, Bool, true, false, Some, None}
use Rattle.std.proofs.Common.{slice_get, List, [], ◌∷◌, length, take, drop, nat_eq, refl, sym, ap}
use Rattle.std.proofs.Common.{◌∙◌, subst, arith, Contains}
use Rattle.std.specs.Prelude.{Option, option_and_then, if◌then◌else◌}
use Rattle.std.proofs.lemmas.Bool.{eqb-true, true≢false}
use Rattle.std.proofs.lemmas.Option.{slice_get_past, slice_get-get_or}
use Rattle.std.specs.List.Sorted.{IsSorted}
use Rattle.rn_value.specs.Order.{value_cmp}
use Rattle.rn_value.specs.declared.value.Value.{Value}
use Rattle.rn_model.specs.Lists.{same_value, count_of}
use Rattle.rn_model.proofs.ValueLists.{one_if, count_of-cons}
use Rattle.rn_model.proofs.AskedValues.{same_itself}
use Rattle.rn_bag.specs.Cuts.{AllBelow, NoneBelow, Ascends}
use Rattle.rn_bag.proofs.AscendingLemmas.{below, below_differs, below_through}
use Rattle.rn_bag.proofs.AscendingLemmas.{not_itself, same_value_is}
use Rattle.rn_bag.proofs.CursorLemmas.{all_past, ascends_of}
use Rattle.rn_search.specs.Points.{first_token}

none_equal : (v : Value) (ws : List Value) → AllBelow v ws → count_of v ws ≡ 0
none_equal v [] all = refl
none_equal v (w ∷ ws) all =
    let other : one_if (same_value v w) ≡ 0 = ap one_if (below_differs v w all.0) in
    omega (arith, none_equal v ws all.1, other, count_of-cons v w ws)

-- a token after another one is above all before it
last_below : (vs : List Value) (w v : Value) → NoneBelow w vs → slice_get vs 0 ≡ Some v →
    ¬ (w ≡ v) → below w v ≡ true
last_below vs w v up at differs =
    elim (below w v) as (λ b. below w v ≡ b → b ≡ true) [
      | true ↦ λ e. refl
      | false ↦ λ e.
          absurd (differs (sym (same_value_is w v (all_past (λ z. below z w ≡ false) vs 0 0 v up
          (omega arith) at) e)))
    ] refl

all_below : (vs : List Value) (i : ℕ) (w v : Value) → Ascends vs → slice_get vs i ≡ Some w →
    slice_get vs (suc i) ≡ Some v → ¬ (w ≡ v) →
    AllBelow v (take (suc i) vs) × (below w v ≡ true)
all_below [] i w v up first next differs = absurd (let no : ⊥ = cc in no)
all_below (x ∷ xs) zero w v up first next differs =
    let is : x ≡ w = cc in
    let low : below w v ≡ true =
    last_below xs w v (subst (λ y. NoneBelow y xs) is up.0) next differs in
    ((subst (λ y. below y v ≡ true) (sym is) low, tt), low)
all_below (x ∷ xs) (suc i) w v up first next differs =
    let rest = all_below xs i w v up.1 first next differs in
    let high : below w x ≡ false = all_past (λ z. below z x ≡ false) xs 0 i w up.0 (omega arith)
    first in
    ((below_through x w v high rest.1, rest.0), rest.1)

positive : (n : ℕ) → 0 < n → nat_eq n 0 ≡ false
positive n h =
    elim (nat_eq n 0) as (λ b. nat_eq n 0 ≡ b → b ≡ false) [
      | true ↦ λ e. absurd (let none : n ≡ 0 = eqb-true n 0 e in omega (arith, h, none))
      | false ↦ λ e. refl
    ] refl

taken_counts : (vs : List Value) (i : ℕ) (v : Value) → slice_get vs i ≡ Some v →
    0 < count_of v (take (suc i) vs)
taken_counts [] i v at = absurd (let no : ⊥ = cc in no)
taken_counts (x ∷ xs) zero v at =
    let is : x ≡ v = cc in
    let one : one_if (same_value v x) ≡ 1 =
    ap (λ y. one_if (same_value v y)) is ∙ ap one_if (same_itself v) in
    omega (arith, one, count_of-cons v x (take 0 xs))
taken_counts (x ∷ xs) (suc i) v at =
    omega (arith, taken_counts xs i v at, count_of-cons v x (take (suc i) xs))

-- what is said of a token that is there
told : (vs : List Value) (i : ℕ) (v : Value) (b : Bool) → slice_get vs i ≡ Some v →
    nat_eq (count_of v (take i vs)) 0 ≡ b → first_token vs i ≡ (if b then Some v else None)
told vs i v b at e =
    ap (λ o. option_and_then (λ w. if nat_eq (count_of w (take i vs)) 0 then Some w else None) o) at
    ∙ ap (λ c. if c then Some v else None) e

-- there is no token past the end
pub past : (vs : List Value) (i : ℕ) → length vs ≤ i → first_token vs i ≡ None
past vs i h =
    ap (λ o. option_and_then (λ w. if nat_eq (count_of w (take i vs)) 0 then Some w else None) o)
    (slice_get_past vs i h)

-- a token that equals the one before it isn't the first
pub again : (vs : List Value) (i : ℕ) (v : Value) → 0 < i → slice_get vs i ≡ Some v →
    slice_get vs (i - 1) ≡ Some v → first_token vs i ≡ None
again vs zero v some at before = absurd (omega arith)
again vs (suc i) v some at before =
    let place : suc i - 1 ≡ i = omega arith in
    told vs (suc i) v false at
    (positive (count_of v (take (suc i) vs))
    (taken_counts vs i v (ap (slice_get vs) (sym place) ∙ before)))

-- nor are those that equal one before them
pub repeated : (vs : List Value) (index end k : ℕ) → 0 < index →
    ((j : ℕ) → index - 1 ≤ j → j < end → slice_get vs j ≡ slice_get vs (index - 1)) →
    index ≤ k → k < end → first_token vs k ≡ None
repeated vs index end k some equal from below = by (slice_get vs (index - 1)) refl
  where
    here : slice_get vs k ≡ slice_get vs (index - 1)
    here = equal k (omega (arith, from)) below

    before : slice_get vs (k - 1) ≡ slice_get vs (index - 1)
    before = equal (k - 1) (omega (arith, from, some)) (omega (arith, below))

    by : (o : Option Value) → slice_get vs (index - 1) ≡ o → first_token vs k ≡ None
    by None none =
        ap (λ o. option_and_then (λ w. if nat_eq (count_of w (take k vs)) 0 then Some w else None)
        o) (here ∙ none)
    by (Some v) is = again vs k v (omega (arith, some, from)) (here ∙ is) (before ∙ is)

-- the first one of all is, and so is one that doesn't equal the one before it
pub first : (vs : List Value) (i : ℕ) (v : Value) → i ≡ 0 → slice_get vs i ≡ Some v →
    first_token vs i ≡ Some v
first vs zero v none at = told vs 0 v true at refl
first vs (suc i) v none at = absurd (omega (arith, none))

pub fresh : (vs : List Value) (i : ℕ) (v : Value) → IsSorted value_cmp vs → 0 < i →
    slice_get vs i ≡ Some v → ¬ (slice_get vs (i - 1) ≡ Some v) → first_token vs i ≡ Some v
fresh vs zero v sorted some at other = absurd (omega arith)
fresh vs (suc i) v sorted some at other =
    let place : suc i - 1 ≡ i = omega arith in
    let before = element vs i v at in
    let differs : ¬ (before.0 ≡ v) = λ same.
    other (ap (slice_get vs) place ∙ before.1 ∙ ap Some same) in
    let low = all_below vs i before.0 v (ascends_of vs sorted) before.1 at differs in
    told vs (suc i) v true at (ap (λ n. nat_eq n 0) (none_equal v (take (suc i) vs) low.0))
  where
    element : (xs : List Value) (k : ℕ) (x : Value) → slice_get xs (suc k) ≡ Some x →
        (w : Value) × (slice_get xs k ≡ Some w)
    element [] k x is = absurd (let no : ⊥ = cc in no)
    element (y ∷ ys) zero x is = (y, refl)
    element (y ∷ ys) (suc k) x is = element ys k x is

-- A token before which all others are below it is the first of its value;
pub cut_first : (vs : List Value) (k : ℕ) (v : Value) → AllBelow v (take k vs) →
    slice_get vs k ≡ Some v → first_token vs k ≡ Some v
cut_first vs k v low at = told vs k v true at (ap (λ n. nat_eq n 0) (none_equal v (take k vs) low))

-- and where it isn't there, it stands nowhere.
cut_only : (vs : List Value) (k j : ℕ) (v : Value) → Ascends vs → AllBelow v (take k vs) →
    NoneBelow v (drop k vs) → ¬ (slice_get vs k ≡ Some v) → slice_get vs j ≡ Some v → ⊥
cut_only [] k j v up low high other at = let no : ⊥ = cc in no
cut_only (x ∷ xs) zero zero v up low high other at = other at
cut_only (x ∷ xs) zero (suc j) v up low high other at =
    let past : below v x ≡ false =
    all_past (λ z. below z x ≡ false) xs 0 j v up.0 (omega arith) at in
    other (ap Some (same_value_is v x high.0 past))
cut_only (x ∷ xs) (suc k) zero v up low high other at =
    let is : x ≡ v = cc in
    let under : below v v ≡ true = subst (λ z. below z v ≡ true) is low.0 in
    true≢false (sym under ∙ not_itself v)
cut_only (x ∷ xs) (suc k) (suc j) v up low high other at =
    cut_only xs k j v up.1 low.1 high other at

pub cut_absent : (vs : List Value) (k : ℕ) (v : Value) → IsSorted value_cmp vs →
    AllBelow v (take k vs) → NoneBelow v (drop k vs) → ¬ (slice_get vs k ≡ Some v) →
    ¬ Contains vs v
cut_absent vs k v sorted low high other (j, within, is) =
    cut_only vs k j v (ascends_of vs sorted) low high other
    (slice_get-get_or vs j v within ∙ ap Some is)
