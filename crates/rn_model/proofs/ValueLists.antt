-- Ordering values, and taking some away, by how often each is there.
use Rattle.std.proofs.Common.{◌≡◌, ℕ, zero, suc, ◌+◌, ◌-◌, Bool, true, false, cond, List, [], ◌∷◌, get_or, refl, sym, ap, ◌∙◌, subst, arith}
use Rattle.std.proofs.lemmas.List.Sums.{sum_by-cons}
use Rattle.std.specs.Prelude.{⊤}
use Rattle.std.specs.Cmp.{Equal-is}
use Rattle.std.specs.Ordering.{is_lt, ordering_reverse}
use Rattle.std.specs.List.Sorted.{IsSorted}
use Rattle.std.specs.declared.cmp.Ordering.{Ordering}
use Rattle.std.specs.declared.cmp.Ordering.TheVariants.{Less, Equal, Greater}
use Rattle.rn_value.specs.Order.{value_cmp}
use Rattle.rn_value.specs.link.OrderLaws.{value_cmp-total, value_cmp-apart}
use Rattle.rn_value.specs.declared.value.Value.{Value}
use Rattle.rn_model.specs.Lists.{same_value, count_of, with_value, ordered_values, without_one}
use Rattle.rn_model.specs.ListLaws.{OrderedValuesAscend, OrderedValuesStay, OthersAreTaken}

-- the value isn't above the first of these
abbrev NotAbove : Value → List Value → Type 0
NotAbove v [] = ⊤
NotAbove v (w ∷ ws) = is_lt (value_cmp w v) ≡ false

abbrev Ascends : List Value → Type 0
Ascends [] = ⊤
Ascends (v ∷ vs) = NotAbove v vs × Ascends vs

sorted_of : (vs : List Value) → Ascends vs → IsSorted value_cmp vs
sorted_of [] a k d low high = absurd (let no : ⊥ = omega (arith, high) in no)
sorted_of (v ∷ []) a k d low high = absurd (let no : ⊥ = omega (arith, high) in no)
sorted_of (v ∷ w ∷ vs) a zero d low high = a.0
sorted_of (v ∷ w ∷ vs) a (suc k) d low high =
    let place : suc k + 1 ≡ suc (k + 1) = omega arith in
    subst (λ j. is_lt (value_cmp (get_or (v ∷ w ∷ vs) j d) (get_or (w ∷ vs) k d)) ≡ false) (sym place) (sorted_of (w ∷ vs) a.1 k d (omega arith) (omega (arith, high)))

not_both : (r s : Ordering) → r ≡ ordering_reverse s → is_lt s ≡ true → is_lt r ≡ false
not_both r Less e h = rw e refl
not_both r Equal e h = absurd (let no : ⊥ = cc in no)
not_both r Greater e h = absurd (let no : ⊥ = cc in no)

-- where w is below v, v isn't below w
not_below : (v w : Value) → is_lt (value_cmp w v) ≡ true → is_lt (value_cmp v w) ≡ false
not_below v w h = not_both (value_cmp v w) (value_cmp w v) (value_cmp-total.antisymm v w) h

abbrev placed : Value → Value → List Value → Bool → List Value
placed v w ws below = cond below (w ∷ with_value v ws) (v ∷ w ∷ ws)

placed_not_above : (u v w : Value) (ws : List Value) (below : Bool) → is_lt (value_cmp w u) ≡ false → is_lt (value_cmp v u) ≡ false → NotAbove u (placed v w ws below)
placed_not_above u v w ws true first new = first
placed_not_above u v w ws false first new = new

with_not_above : (u v : Value) (ws : List Value) → NotAbove u ws → is_lt (value_cmp v u) ≡ false → NotAbove u (with_value v ws)
with_not_above u v [] first new = new
with_not_above u v (w ∷ ws) first new = placed_not_above u v w ws (is_lt (value_cmp w v)) first new

placed_ascends : (v w : Value) (ws : List Value) (below : Bool) → is_lt (value_cmp w v) ≡ below → Ascends (w ∷ ws) → Ascends (with_value v ws) → Ascends (placed v w ws below)
placed_ascends v w ws true e a b = (with_not_above w v ws a.0 (not_below v w e), b)
placed_ascends v w ws false e a b = (e, a)

with_ascends : (v : Value) (ws : List Value) → Ascends ws → Ascends (with_value v ws)
with_ascends v [] a = (tt, tt)
with_ascends v (w ∷ ws) a = placed_ascends v w ws (is_lt (value_cmp w v)) refl a (with_ascends v ws a.1)

ordered_ascends : (vs : List Value) → Ascends (ordered_values vs)
ordered_ascends [] = tt
ordered_ascends (v ∷ vs) = with_ascends v (ordered_values vs) (ordered_ascends vs)

-- ordered values ascend
pub ordered_values_ascend : OrderedValuesAscend
ordered_values_ascend vs = sorted_of (ordered_values vs) (ordered_ascends vs)

-- 1 where the test passes
abbrev pub one_if : Bool → ℕ
one_if t = cond t 1 0

-- with one value more a value counts once more where the two are the same
pub count_of-cons : (z w : Value) (ws : List Value) → count_of z (w ∷ ws) ≡ one_if (same_value z w) + count_of z ws
count_of-cons z w ws = sum_by-cons (λ y. one_if (same_value z y)) w ws

count_placed : (z v w : Value) (ws : List Value) (below : Bool) → count_of z (with_value v ws) ≡ one_if (same_value z v) + count_of z ws → count_of z (placed v w ws below) ≡ one_if (same_value z v) + count_of z (w ∷ ws)
count_placed z v w ws true e =
    let first = count_of-cons z w (with_value v ws) in
    let before = count_of-cons z w ws in
    omega (arith, first, before, e)
count_placed z v w ws false e = count_of-cons z v (w ∷ ws)

count_with : (z v : Value) (ws : List Value) → count_of z (with_value v ws) ≡ one_if (same_value z v) + count_of z ws
count_with z v [] = count_of-cons z v []
count_with z v (w ∷ ws) = count_placed z v w ws (is_lt (value_cmp w v)) (count_with z v ws)

-- ordered values hold each value as often as before
pub ordered_values_stay : OrderedValuesStay
ordered_values_stay [] z = refl
ordered_values_stay (v ∷ vs) z =
    let here = count_with z v (ordered_values vs) in
    let rest = ordered_values_stay vs z in
    let before = count_of-cons z v vs in
    omega (arith, here, rest, before)

-- values that the test takes as the same are equal
pub same_is : (v w : Value) → same_value v w ≡ true → v ≡ w
same_is v w e = value_cmp-apart v w ((Equal-is (value_cmp v w)).0 e)

abbrev left_after : Value → Value → List Value → Bool → List Value
left_after v w ws same = cond same ws (w ∷ without_one ws v)

count_left : (z v w : Value) (ws : List Value) (same also : Bool) → same_value v w ≡ same → same_value z v ≡ also → count_of z (without_one ws v) ≡ count_of z ws - one_if (same_value z v) →
    count_of z (left_after v w ws same) ≡ count_of z (w ∷ ws) - one_if (same_value z v)
count_left z v w ws true also e f rest =
    let is : v ≡ w = same_is v w e in
    let here : count_of z (w ∷ ws) ≡ one_if (same_value z v) + count_of z ws = count_of-cons z w ws ∙ ap (λ x. one_if (same_value z x) + count_of z ws) (sym is) in
    omega (arith, here)
count_left z v w ws false true e f rest =
    let is : z ≡ v = same_is z v f in
    let other : same_value z w ≡ false = ap (λ x. same_value x w) is ∙ e in
    let first : count_of z (w ∷ without_one ws v) ≡ count_of z (without_one ws v) = count_of-cons z w (without_one ws v) ∙ ap (λ t. one_if t + count_of z (without_one ws v)) other ∙ omega arith in
    let before : count_of z (w ∷ ws) ≡ count_of z ws = count_of-cons z w ws ∙ ap (λ t. one_if t + count_of z ws) other ∙ omega arith in
    omega (arith, first, before, rest)
count_left z v w ws false false e f rest =
    let none : one_if (same_value z v) ≡ 0 = ap one_if f in
    let first = count_of-cons z w (without_one ws v) in
    let before = count_of-cons z w ws in
    omega (arith, none, first, before, rest)

count_without_one : (z v : Value) (ws : List Value) → count_of z (without_one ws v) ≡ count_of z ws - one_if (same_value z v)
count_without_one z v [] = omega arith
count_without_one z v (w ∷ ws) = count_left z v w ws (same_value v w) (same_value z v) refl refl (count_without_one z v ws)

-- without others a value counts less by as often as it is among them, or not at all
pub others_are_taken : OthersAreTaken
others_are_taken ws [] z = omega arith
others_are_taken ws (v ∷ vs) z =
    let rest = others_are_taken (without_one ws v) vs z in
    let one = count_without_one z v ws in
    let taken = count_of-cons z v vs in
    omega (arith, rest, one, taken)
