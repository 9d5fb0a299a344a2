-- Ascending lists of values, and where a value stands in one.
use Rattle.std.proofs.Common.{◌≡◌, ℕ, zero, suc, ◌+◌, ◌<◌, ◌≤◌, Bool, true, false, cond, List, [], ◌∷◌, ◌++◌, length, take, drop, get_or, length-take, refl, sym, ap, ◌∙◌, subst, arith}
use Rattle.std.proofs.lemmas.Bool.{false≢true, true≢false, not-true, not-false}
use Rattle.std.proofs.lemmas.List.{take-append-drop, drop_more, drop-append-le}
use Rattle.std.proofs.lemmas.List.Sorted.{ranks_by}
use Rattle.std.specs.List.{AllByRecursion}
use Rattle.std.specs.List.Sorted.{IsSorted}
use Rattle.std.specs.Cmp.{tied_itself, IsStrictWeakOrder}
use Rattle.std.specs.Ordering.{is_lt, is_eq, ordering_reverse}
use Rattle.std.specs.declared.cmp.Ordering.{Ordering}
use Rattle.std.specs.declared.cmp.Ordering.TheVariants.{Less, Equal, Greater}
use Rattle.rn_value.specs.Order.{value_cmp}
use Rattle.rn_value.specs.link.OrderLaws.{value_cmp-total, value_cmp-apart}
use Rattle.rn_value.specs.declared.value.Value.{Value}
use Rattle.rn_value.proofs.SortedLists.{neither_way}
use Rattle.rn_model.specs.Lists.{same_value, with_value, without_one}
use Rattle.rn_model.proofs.AskedValues.{same_itself}
use Rattle.rn_bag.specs.declared.cut.Cut.TheVariants.{UpTo}
use Rattle.rn_bag.specs.Cuts.{is_before, AllBefore, NoneBefore, AllBelow, NoneBelow, Ascends}
use Rattle.rn_bag.proofs.SlotLemmas.{all_prefix, all_suffix, all_weaker}

-- an order's answers, and what follows of them
not_equal : (r s : Ordering) → r ≡ ordering_reverse s → is_lt s ≡ true → is_eq r ≡ false
not_equal r Less e h = rw e refl
not_equal r Equal e h = absurd (false≢true h)
not_equal r Greater e h = absurd (false≢true h)

-- a value isn't the same as one that is below it
pub below_differs : (v w : Value) → is_lt (value_cmp w v) ≡ true → same_value v w ≡ false
below_differs v w low = not_equal (value_cmp v w) (value_cmp w v) (value_cmp-total.antisymm v w) low

pub without_at : (v : Value) (xs ys : List Value) → AllBelow v xs → without_one (xs ++ v ∷ ys) v ≡ xs ++ ys
without_at v [] ys low = ap (λ b. cond b ys (v ∷ without_one ys v)) (same_itself v)
without_at v (x ∷ xs) ys low =
    ap (λ b. cond b (xs ++ v ∷ ys) (x ∷ without_one (xs ++ v ∷ ys) v)) (below_differs v x low.0)
    ∙ ap (λ r. x ∷ r) (without_at v xs ys low.1)

with_least : (v : Value) (ys : List Value) → NoneBelow v ys → with_value v ys ≡ v ∷ ys
with_least v [] high = refl
with_least v (y ∷ ys) high = ap (λ b. cond b (y ∷ with_value v ys) (v ∷ y ∷ ys)) high.0

pub with_at : (v : Value) (xs ys : List Value) → AllBelow v xs → NoneBelow v ys → with_value v (xs ++ ys) ≡ xs ++ v ∷ ys
with_at v [] ys low high = with_least v ys high
with_at v (x ∷ xs) ys low high =
    ap (λ b. cond b (x ∷ with_value v (xs ++ ys)) (v ∷ x ∷ (xs ++ ys))) low.0
    ∙ ap (λ r. x ∷ r) (with_at v xs ys low.1 high)

-- values of which neither is below the other are equal
pub same_value_is : (v w : Value) → is_lt (value_cmp w v) ≡ false → is_lt (value_cmp v w) ≡ false → w ≡ v
same_value_is v w p q = value_cmp-apart w v (neither_way (value_cmp w v) (value_cmp v w) (value_cmp-total.antisymm w v) p q)

-- a value may also come after those that are equal to it
pub with_past : (v : Value) (xs ys : List Value) → Ascends (xs ++ ys) → AllBefore UpTo v xs → NoneBelow v ys → with_value v (xs ++ ys) ≡ xs ++ v ∷ ys
with_past v [] ys up low high = with_least v ys high
with_past v (x ∷ xs) ys up low high =
    let rest : with_value v (xs ++ ys) ≡ xs ++ v ∷ ys = with_past v xs ys up.1 low.1 high in
    elim (is_lt (value_cmp x v)) as (λ t. is_lt (value_cmp x v) ≡ t → with_value v (x ∷ (xs ++ ys)) ≡ x ∷ (xs ++ v ∷ ys)) [
      | true ↦ λ e. ap (λ b. cond b (x ∷ with_value v (xs ++ ys)) (v ∷ x ∷ (xs ++ ys))) e ∙ ap (λ r. x ∷ r) rest
      | false ↦ λ e. (let is : x ≡ v = same_value_is v x e (not-true (is_lt (value_cmp v x)) low.0) in
          let least : with_value v (xs ++ ys) ≡ v ∷ (xs ++ ys) = with_least v (xs ++ ys) (subst (λ z. NoneBelow z (xs ++ ys)) is up.0) in
          ap (λ b. cond b (x ∷ with_value v (xs ++ ys)) (v ∷ x ∷ (xs ++ ys))) e ∙ ap (λ z. v ∷ z ∷ (xs ++ ys)) is ∙ ap (λ r. v ∷ r) (sym least ∙ rest) ∙ ap (λ z. z ∷ (xs ++ v ∷ ys)) (sym is))
    ] refl

abbrev pub below : Value → Value → Bool
below x y = is_lt (value_cmp x y)

pub order : IsStrictWeakOrder below
order = ranks_by value_cmp-total (λ x. x)

-- no value is below itself
pub not_itself : (v : Value) → below v v ≡ false
not_itself v = ap is_lt (tied_itself value_cmp-total v)

-- what isn't above w is below all that w is below
pub below_through : (a w v : Value) → below w a ≡ false → below w v ≡ true → below a v ≡ true
below_through a w v above low = elim (below a v) as (λ t. below a v ≡ t → t ≡ true) [
  | true ↦ λ _. refl
  | false ↦ λ e. absurd (true≢false (sym low ∙ order.chain w a v above e))
] refl

pub ascends_suffix : (xs ys : List Value) → Ascends (xs ++ ys) → Ascends ys
ascends_suffix [] ys up = up
ascends_suffix (x ∷ xs) ys up = ascends_suffix xs ys up.1

pub ascends_prefix : (xs ys : List Value) → Ascends (xs ++ ys) → Ascends xs
ascends_prefix [] ys up = tt
ascends_prefix (x ∷ xs) ys up = (all_prefix (λ z. below z x ≡ false) xs ys up.0, ascends_prefix xs ys up.1)

-- a list in which no value is below one before it is sorted
pub sorted_of : (vs : List Value) → Ascends vs → IsSorted value_cmp vs
sorted_of [] up k d low high = absurd (let no : ⊥ = omega (arith, high) in no)
sorted_of (v ∷ []) up k d low high = absurd (let no : ⊥ = omega (arith, high) in no)
sorted_of (v ∷ w ∷ vs) up zero d low high = up.0.0
sorted_of (v ∷ w ∷ vs) up (suc k) d low high =
    let place : suc k + 1 ≡ suc (k + 1) = omega arith in
    subst (λ j. is_lt (value_cmp (get_or (v ∷ w ∷ vs) j d) (get_or (w ∷ vs) k d)) ≡ false) (sym place) (sorted_of (w ∷ vs) up.1 k d (omega arith) (omega (arith, high)))

-- of ascending values, none of which is below v, those before a v are v
all_equal : (v : Value) (xs ys : List Value) → Ascends (xs ++ v ∷ ys) → NoneBelow v xs → AllByRecursion (λ w. w ≡ v) xs
all_equal v [] ys up none = tt
all_equal v (x ∷ xs) ys up none =
    let later : NoneBelow x (v ∷ ys) = all_suffix (λ z. below z x ≡ false) xs (v ∷ ys) up.0 in
    (same_value_is v x none.0 later.0, all_equal v xs ys up.1 none.1)

pub equal_between : (v : Value) (vs : List Value) (n m : ℕ) → Ascends vs → n ≤ m → m < length vs → v ≡ get_or vs m v → NoneBelow v (drop n vs) → AllByRecursion (λ w. w ≡ v) (drop n (take m vs))
equal_between v vs n m up order within is high =
    let size : n ≤ length (take m vs) = omega (arith, length-take m vs) in
    let rest : drop m vs ≡ v ∷ drop (m + 1) vs = drop_more vs m v within ∙ ap (λ y. y ∷ drop (m + 1) vs) (sym is) in
    let parts : drop n vs ≡ drop n (take m vs) ++ v ∷ drop (m + 1) vs =
    ap (drop n) (sym (take-append-drop m vs)) ∙ drop-append-le n (take m vs) (drop m vs) size ∙ ap (λ r. drop n (take m vs) ++ r) rest in
    let here : Ascends (drop n vs) = ascends_suffix (take n vs) (drop n vs) (subst Ascends (sym (take-append-drop n vs)) up) in
    all_equal v (drop n (take m vs)) (drop (m + 1) vs) (subst Ascends parts here) (all_prefix (λ z. below z v ≡ false) (drop n (take m vs)) (v ∷ drop (m + 1) vs) (subst (NoneBelow v) parts high))

-- what stands after a value isn't below it
pub none_below : (v : Value) (ys : List Value) → NoneBefore UpTo v ys → NoneBelow v ys
none_below v ys high = all_weaker (λ z. is_before UpTo v z ≡ false) (λ z. below z v ≡ false) ys (λ z h. order.one_way v z (not-false (below v z) h)) high
