-- Counting and looking up in an ascending list by where it is cut.
use Rattle.std.proofs.Common.{◌≡◌, ◌≢◌, ℕ, zero, suc, ◌+◌, ◌-◌, ◌<◌, ◌≤◌, ◌↔◌, Bool, true, false, cond, Some, slice_get, List, [], ◌∷◌, ◌++◌, length, take, drop, get_or, append-nil, refl, sym, ap, ◌∙◌, subst, arith, inl, inr}
use Rattle.std.specs.Prelude.{◌⊎◌, ◌||◌, filter, IsTrue}
use Rattle.std.proofs.lemmas.Bool.{false≢true, true≢false, cases_lt, not-true, not-false, or_parts}
use Rattle.std.proofs.lemmas.List.{take-append-drop, drop-take, drop-drop, take_more}
use Rattle.std.proofs.lemmas.List.Elements.{filter-append}
use Rattle.std.specs.List.{AllByRecursion}
use Rattle.std.specs.List.Sorted.{IsSorted}
use Rattle.std.specs.Ordering.{is_lt, is_eq}
use Rattle.std.specs.declared.cmp.Ordering.{Ordering}
use Rattle.std.specs.declared.cmp.Ordering.TheVariants.{Less, Equal, Greater}
use Rattle.rn_value.specs.Order.{value_cmp}
use Rattle.rn_value.specs.declared.value.Value.{Value}
use Rattle.rn_value.specs.declared.value.Value.TheVariants as Value
use Rattle.rn_model.specs.Lists.{same_value, count_of, IsWithin}
use Rattle.rn_model.proofs.ValueLists.{one_if, count_of-cons, same_is}
use Rattle.rn_model.proofs.AskedValues.{same_itself}
use Rattle.rn_bag.specs.declared.cut.Cut.TheVariants.{UpTo, BelowFirst, UpToFirst}
use Rattle.rn_bag.specs.Cuts.{has_first, is_before, AllBefore, NoneBefore, AllBelow, NoneBelow, Ascends}
use Rattle.rn_bag.proofs.SlotLemmas.{all_prefix, all_suffix, all_weaker}
use Rattle.rn_bag.proofs.AscendingLemmas.{below, order, not_itself, below_differs, same_value_is}
use Rattle.rn_bag.proofs.CutLemmas.{first_not_below, not_first}
use Rattle.rn_bag.proofs.EditLemmas.{element, at_get}

lt_not_eq : (a : Ordering) → is_lt a ≡ true → is_eq a ≡ false
lt_not_eq Less e = refl
lt_not_eq Equal e = absurd (false≢true e)
lt_not_eq Greater e = absurd (false≢true e)

-- how often a value is among these is how far its two cuts are apart
pub count_between : (v : Value) (xs : List Value) (i j : ℕ) → i ≤ length xs → j ≤ length xs → AllBelow v (take i xs) → NoneBelow v (drop i xs) → AllBefore UpTo v (take j xs) → NoneBefore UpTo v (drop j xs) →
    count_of v xs + i ≡ j
count_between v [] i j i_in j_in low high under over = omega arith
count_between v (x ∷ xs) zero zero i_in j_in low high under over =
    let other : one_if (same_value v x) ≡ 0 = ap one_if (lt_not_eq (value_cmp v x) (not-false (below v x) over.0)) in
    omega (arith, other, count_of-cons v x xs, count_between v xs 0 0 (omega arith) (omega arith) tt high.1 tt over.1)
count_between v (x ∷ xs) zero (suc j) i_in j_in low high under over =
    let is : x ≡ v = same_value_is v x high.0 (not-true (below v x) under.0) in
    let here : one_if (same_value v x) ≡ 1 = ap (λ z. one_if (same_value z x)) (sym is) ∙ ap one_if (same_itself x) in
    omega (arith, here, count_of-cons v x xs, count_between v xs 0 j (omega arith) (omega arith) tt high.1 under.1 over)
count_between v (x ∷ xs) (suc i) zero i_in j_in low high under over =
    absurd (true≢false (sym (not-false (below v x) over.0) ∙ order.one_way x v low.0))
count_between v (x ∷ xs) (suc i) (suc j) i_in j_in low high under over =
    let other : one_if (same_value v x) ≡ 0 = ap one_if (below_differs v x low.0) in
    omega (arith, other, count_of-cons v x xs, count_between v xs i j (omega arith) (omega arith) low.1 high under.1 over)

-- what holds of the first items, or of those from an index on, by their indices
pub all_at : (P : Value → Type 0) (xs : List Value) (r k : ℕ) (w : Value) → AllByRecursion P (take r xs) → k < r → slice_get xs k ≡ Some w → P w
all_at P [] r k w all inside is = absurd (let no : ⊥ = cc in no)
all_at P (x ∷ xs) zero k w all inside is = absurd (omega arith)
all_at P (x ∷ xs) (suc r) zero w all inside is = let e : x ≡ w = cc in subst P e all.0
all_at P (x ∷ xs) (suc r) (suc k) w all inside is = all_at P xs r k w all.1 (omega arith) is

-- and so of each at an index from there on
pub all_past : (P : Value → Type 0) (xs : List Value) (r k : ℕ) (w : Value) → AllByRecursion P (drop r xs) → r ≤ k → slice_get xs k ≡ Some w → P w
all_past P [] r k w all past is = absurd (let no : ⊥ = cc in no)
all_past P (x ∷ xs) zero zero w all past is = let e : x ≡ w = cc in subst P e all.0
all_past P (x ∷ xs) zero (suc k) w all past is = all_past P xs zero k w all.1 (omega arith) is
all_past P (x ∷ xs) (suc r) zero w all past is = absurd (omega arith)
all_past P (x ∷ xs) (suc r) (suc k) w all past is = all_past P xs r k w all (omega arith) is

-- of ascending values a later one isn't below an earlier
ascends_at : (xs : List Value) (i k : ℕ) (v w : Value) → Ascends xs → i ≤ k → slice_get xs i ≡ Some v → slice_get xs k ≡ Some w → below w v ≡ false
ascends_at [] i k v w up order_is at_i at_k = absurd (let no : ⊥ = cc in no)
ascends_at (x ∷ xs) zero zero v w up order_is at_i at_k =
    let a : x ≡ v = cc in
    let b : x ≡ w = cc in
    subst (λ z. below z v ≡ false) (sym a ∙ b) (not_itself v)
ascends_at (x ∷ xs) zero (suc k) v w up order_is at_i at_k =
    let a : x ≡ v = cc in
    subst (λ z. below w z ≡ false) a (all_past (λ z. below z x ≡ false) xs 0 k w up.0 (omega arith) at_k)
ascends_at (x ∷ xs) (suc i) zero v w up order_is at_i at_k = absurd (omega arith)
ascends_at (x ∷ xs) (suc i) (suc k) v w up order_is at_i at_k = ascends_at xs i k v w up.1 (omega arith) at_i at_k

pub within : (xs : List Value) (k : ℕ) (w : Value) → slice_get xs k ≡ Some w → k < length xs
within [] k w is = absurd (let no : ⊥ = cc in no)
within (x ∷ xs) zero w is = omega arith
within (x ∷ xs) (suc k) w is = omega (arith, within xs k w is)

-- the first index with another token than the one of an index
module _ (xs : List Value) (index r : ℕ) (v : Value) (up : Ascends xs) (is : slice_get xs index ≡ Some v) (under : AllBefore UpTo v (take r xs)) (over : NoneBefore UpTo v (drop r xs)) where
  pub other_later : index < r
  other_later = elim (cases_lt index r) [
    | inl low ↦ low
    | inr past ↦ absurd (true≢false (sym (not-false (below v v) (all_past (λ z. is_before UpTo v z ≡ false) xs r index v over past is)) ∙ not_itself v))
  ]

  pub other_equal : (k : ℕ) → index ≤ k → k < r → k < length xs → slice_get xs k ≡ slice_get xs index
  other_equal k later inside k_in =
      let e = element xs k k_in in
      let high : below e.0 v ≡ false = ascends_at xs index k v e.0 up later is e.1 in
      let low : below v e.0 ≡ false = not-true (below v e.0) (all_at (λ z. is_before UpTo v z ≡ true) xs r k e.0 under inside e.1) in
      e.1 ∙ ap (λ z. Some z) (same_value_is v e.0 high low) ∙ sym is

  pub other_other : (k : ℕ) → r ≤ k → k < length xs → slice_get xs k ≢ slice_get xs index
  other_other k past k_in same =
      let at : slice_get xs k ≡ Some v = same ∙ is in
      true≢false (sym (not-false (below v v) (all_past (λ z. is_before UpTo v z ≡ false) xs r k v over past at)) ∙ not_itself v)

or_true : (a b : Bool) → (a || b) ≡ true → a ≡ false → b ≡ true
or_true true b e f = absurd (true≢false f)
or_true false b e f = e

filter_none : (t : Value → Bool) (xs : List Value) → AllByRecursion (λ z. t z ≡ false) xs → filter t xs ≡ []
filter_none t [] none = refl
filter_none t (x ∷ xs) none = ap (λ b. cond b (x ∷ filter t xs) (filter t xs)) none.0 ∙ filter_none t xs none.1

filter_all : (t : Value → Bool) (xs : List Value) → AllByRecursion (λ z. t z ≡ true) xs → filter t xs ≡ xs
filter_all t [] all = refl
filter_all t (x ∷ xs) all = ap (λ b. cond b (x ∷ filter t xs) (filter t xs)) all.0 ∙ ap (λ r. x ∷ r) (filter_all t xs all.1)

all_both : (P Q R : Value → Type 0) (xs : List Value) → ((x : Value) → P x → Q x → R x) → AllByRecursion P xs → AllByRecursion Q xs → AllByRecursion R xs
all_both P Q R [] f p q = tt
all_both P Q R (x ∷ xs) f p q = (f x p.0 q.0, all_both P Q R xs f p.1 q.1)

-- the tuples with a first part
module _ (key : Value) (xs : List Value) (i j : ℕ) (i_in : i ≤ length xs) (j_in : j ≤ length xs) (low : AllBefore BelowFirst key (take i xs)) (high : NoneBefore BelowFirst key (drop i xs)) (under : AllBefore UpToFirst key (take j xs)) (over : NoneBefore UpToFirst key (drop j xs)) where
  abbrev T : Value
  T = Value.Tuple (key ∷ [])

  pub first_order : i ≤ j
  first_order = elim (cases_lt j i) [
    | inl less ↦ (let e = element xs j (omega arith) in
        let below_it : below e.0 T ≡ true = all_at (λ z. below z T ≡ true) xs i j e.0 low less e.1 in
        let out = all_past (λ z. is_before UpToFirst key z ≡ false) xs j j e.0 over (omega arith) e.1 in
        absurd (true≢false (sym below_it ∙ (or_parts (below e.0 T) (has_first key e.0) out).0)))
    | inr ok ↦ ok
  ]

  pub first_exact : (k : ℕ) (v : Value) → slice_get xs k ≡ Some v → (IsTrue (has_first key v) ↔ ((i ≤ k) × (k < j)))
  first_exact k v at = (
    λ yes. (
      elim (cases_lt k i) [
        | inl less ↦ absurd (true≢false (sym (all_at (λ z. below z T ≡ true) xs i k v low less at) ∙ first_not_below key v yes))
        | inr past ↦ past
      ],
      elim (cases_lt k j) [
        | inl less ↦ less
        | inr past ↦ absurd (true≢false (sym yes ∙ (or_parts (below v T) (has_first key v) (all_past (λ z. is_before UpToFirst key z ≡ false) xs j k v over past at)).1))
      ],
    ),
    λ both. or_true (below v T) (has_first key v) (all_at (λ z. is_before UpToFirst key z ≡ true) xs j k v under both.1 at) (all_past (λ z. below z T ≡ false) xs i k v high both.0 at),
  )

  pub first_tokens : take (j - i) (drop i xs) ≡ filter (has_first key) xs
  first_tokens =
      let t : Value → Bool = has_first key in
      let mid : List Value = take (j - i) (drop i xs) in
      let whole : i + (j - i) ≡ j = omega (arith, first_order) in
      let mid_is : drop i (take j xs) ≡ mid = ap (λ n. drop i (take n xs)) (sym whole) ∙ drop-take i (j - i) xs in
      let rest : drop i xs ≡ mid ++ drop (j - i) (drop i xs) = sym (take-append-drop (j - i) (drop i xs)) in
      let past : drop (j - i) (drop i xs) ≡ drop j xs = drop-drop (j - i) i xs ∙ ap (λ n. drop n xs) whole in
      let none_low : filter t (take i xs) ≡ [] = filter_none t (take i xs) (all_weaker (λ z. below z T ≡ true) (λ z. t z ≡ false) (take i xs) (λ z h. not_first key z h) low) in
      let none_high : filter t (drop j xs) ≡ [] = filter_none t (drop j xs) (all_weaker (λ z. is_before UpToFirst key z ≡ false) (λ z. t z ≡ false) (drop j xs) (λ z h. (or_parts (below z T) (t z) h).1) over) in
      let mid_high : AllByRecursion (λ z. below z T ≡ false) mid = all_prefix (λ z. below z T ≡ false) mid (drop (j - i) (drop i xs)) (subst (AllByRecursion (λ z. below z T ≡ false)) rest high) in
      let mid_under : AllByRecursion (λ z. is_before UpToFirst key z ≡ true) mid = subst (AllByRecursion (λ z. is_before UpToFirst key z ≡ true)) mid_is
      (all_suffix (λ z. is_before UpToFirst key z ≡ true) (take i (take j xs)) (drop i (take j xs)) (subst (AllByRecursion (λ z. is_before UpToFirst key z ≡ true)) (sym (take-append-drop i (take j xs))) under)) in
      let all_mid : filter t mid ≡ mid = filter_all t mid (all_both (λ z. below z T ≡ false) (λ z. is_before UpToFirst key z ≡ true) (λ z. t z ≡ true) mid (λ z h u. or_true (below z T) (t z) u h) mid_high mid_under) in
      sym (ap (filter t) (sym (take-append-drop i xs)) ∙ filter-append t (take i xs) (drop i xs) ∙ ap (λ r. r ++ filter t (drop i xs)) none_low
      ∙ ap (filter t) (rest ∙ ap (λ r. mid ++ r) past) ∙ filter-append t mid (drop j xs) ∙ ap (λ r. r ++ filter t (drop j xs)) all_mid ∙ ap (λ r. mid ++ r) none_high ∙ append-nil mid)

-- a sorted list ascends
sorted_rest : (v : Value) (vs : List Value) → IsSorted value_cmp (v ∷ vs) → IsSorted value_cmp vs
sorted_rest v vs sorted k d low high =
    let place : suc k + 1 ≡ suc (k + 1) = omega arith in
    subst (λ j. is_lt (value_cmp (get_or (v ∷ vs) j d) (get_or vs k d)) ≡ false) place (sorted (suc k) d (omega arith) (omega (arith, high)))

-- in a sorted list no value is below one before it
pub ascends_of : (vs : List Value) → IsSorted value_cmp vs → Ascends vs
ascends_of [] sorted = tt
ascends_of (v ∷ []) sorted = (tt, tt)
ascends_of (v ∷ w ∷ vs) sorted =
    let rest : Ascends (w ∷ vs) = ascends_of (w ∷ vs) (sorted_rest v (w ∷ vs) sorted) in
    let first : below w v ≡ false = sorted 0 v (omega arith) (omega arith) in
    ((first, all_weaker (λ z. below z w ≡ false) (λ z. below z v ≡ false) vs (λ z h. order.chain z w v h first) rest.0), rest)

-- each value is there as often as among these, where each of these is
each_or_none : (P : Value → Type 0) (v : Value) (ws : List Value) → AllByRecursion P ws → (count_of v ws ≡ 0) ⊎ P v
each_or_none P v [] all = inl refl
each_or_none P v (w ∷ ws) all = elim (same_value v w) as (λ t. same_value v w ≡ t → (count_of v (w ∷ ws) ≡ 0) ⊎ P v) [
  | true ↦ λ e. inr (subst P (sym (same_is v w e)) all.0)
  | false ↦ λ e. elim (each_or_none P v ws all.1) [
    | inl none ↦ inl (let other : one_if (same_value v w) ≡ 0 = ap one_if e in omega (arith, none, other, count_of-cons v w ws))
    | inr here ↦ inr here
  ]
] refl

pub within_each : (ws bag : List Value) → AllByRecursion (λ w. count_of w ws ≤ count_of w bag) ws → IsWithin ws bag
within_each ws bag all v = elim (each_or_none (λ w. count_of w ws ≤ count_of w bag) v ws all) [
  | inl none ↦ omega (arith, none)
  | inr here ↦ here
]

-- of ascending values one is there just where it stands at its cut
pub there_at_cut : (v : Value) (xs : List Value) (i : ℕ) → Ascends xs → AllBelow v (take i xs) → NoneBelow v (drop i xs) → (slice_get xs i ≡ Some v) ↔ (0 < count_of v xs)
there_at_cut v [] i up low high = (λ is. absurd (let no : ⊥ = cc in no), λ some. absurd (let no : ⊥ = omega (arith, some) in no))
there_at_cut v (x ∷ xs) zero up low high = (
  λ is. let e : x ≡ v = cc in let here : one_if (same_value v x) ≡ 1 = ap (λ z. one_if (same_value z x)) (sym e) ∙ ap one_if (same_itself x) in omega (arith, here, count_of-cons v x xs),
  λ some. elim (each_or_none (λ z. below z x ≡ false) v (x ∷ xs) (not_itself x, up.0)) [
    | inl none ↦ absurd (let no : ⊥ = omega (arith, none, some) in no)
    | inr past ↦ ap (λ z. Some z) (same_value_is v x high.0 past)
  ],
)
there_at_cut v (x ∷ xs) (suc i) up low high =
    let other : one_if (same_value v x) ≡ 0 = ap one_if (below_differs v x low.0) in
    let rest = there_at_cut v xs i up.1 low.1 high in
    (λ is. omega (arith, rest.0 is, other, count_of-cons v x xs), λ some. rest.1 (omega (arith, some, other, count_of-cons v x xs)))

-- one value is there as often as by itself just where it is there
pub one_within : (v : Value) (bag : List Value) → (0 < count_of v bag) ↔ IsWithin (v ∷ []) bag
one_within v bag =
    let here : one_if (same_value v v) ≡ 1 = ap one_if (same_itself v) in
    let one : count_of v (v ∷ []) ≡ 1 = omega (arith, here, count_of-cons v v []) in
    (λ some. within_each (v ∷ []) bag (omega (arith, one, some), tt), λ all. omega (arith, one, all v))

-- one more token of a part of the list
pub copied_more : (xs : List Value) (s i : ℕ) (v : Value) → s ≤ i → slice_get xs i ≡ Some v → take (i + 1 - s) (drop s xs) ≡ take (i - s) (drop s xs) ++ v ∷ []
copied_more xs zero i v order_is at =
    let found = at_get xs i v at in
    ap (λ n. take n xs) (let e : i + 1 - 0 ≡ i + 1 = omega arith in e) ∙ take_more xs i v found.0 ∙ ap (λ z. take i xs ++ z ∷ []) (sym found.1) ∙ ap (λ n. take n xs ++ v ∷ []) (let e : i ≡ i - 0 = omega arith in e)
copied_more [] (suc s) i v order_is at = absurd (let no : ⊥ = cc in no)
copied_more (x ∷ xs) (suc s) zero v order_is at = absurd (omega arith)
copied_more (x ∷ xs) (suc s) (suc i) v order_is at =
    ap (λ n. take n (drop s xs)) (let e : suc i + 1 - suc s ≡ i + 1 - s = omega arith in e) ∙ copied_more xs s i v (omega arith) at ∙ ap (λ n. take n (drop s xs) ++ v ∷ []) (let e : i - s ≡ suc i - suc s = omega arith in e)

-- what holds of the first items holds of one that is read
pub all_read : (P : Value → Type 0) (xs : List Value) (r k : ℕ) (w : Value) → AllByRecursion P (take r xs) → k < r → k < length xs → w ≡ get_or xs k w → P w
all_read P [] r k w all inside k_in is = absurd (omega arith)
all_read P (x ∷ xs) zero k w all inside k_in is = absurd (omega arith)
all_read P (x ∷ xs) (suc r) zero w all inside k_in is = subst P (sym is) all.0
all_read P (x ∷ xs) (suc r) (suc k) w all inside k_in is = all_read P xs r k w all.1 (omega arith) (omega arith) is
