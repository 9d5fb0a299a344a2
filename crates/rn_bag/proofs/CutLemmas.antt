-- Where an ascending list is cut: what stands before a cut, and the steps of halving.
use Rattle.std.proofs.Common.{◌≡◌, ℕ, ◌+◌, ◌<◌, ◌≤◌, ◌↔◌, Bool, true, false, List, [], ◌∷◌, ◌++◌, length, take, drop, get_or, refl, sym, ap, ◌∙◌, subst, arith}
use Rattle.std.specs.Prelude.{not, ◌||◌, ℤ}
use Rattle.std.proofs.lemmas.Bool.{false≢true, true≢false, not-true}
use Rattle.std.proofs.lemmas.List.{take-append-drop, take_all, drop_more, take_more}
use Rattle.std.specs.Cmp.{Equal-is}
use Rattle.std.specs.Ordering.{is_lt, ordering_then}
use Rattle.std.specs.Cmp.Lexicographic.{slice_cmp}
use Rattle.std.specs.declared.cmp.Ordering.{Ordering}
use Rattle.std.specs.declared.cmp.Ordering.TheVariants.{Less, Equal, Greater}
use Rattle.rn_value.specs.Order.{value_cmp}
use Rattle.rn_value.specs.link.OrderLaws.{value_cmp-out, value_cmp-apart}
use Rattle.rn_value.specs.declared.value.InstRef.{InstRef}
use Rattle.rn_value.specs.declared.value.Value.{Value, out-Value, roll-Value, roll-out-Value}
use Rattle.rn_value.specs.declared.value.Value.TheVariants as Value
use Rattle.rn_value.specs.declared.value.Value.TheOpen as V
use Rattle.rn_model.specs.Lists.{same_value}
use Rattle.rn_model.proofs.AskedValues.{same_itself}
use Rattle.rn_bag.specs.declared.cut.Cut.{Cut}
use Rattle.rn_bag.specs.declared.cut.Cut.TheVariants.{Below, UpTo, BelowFirst, UpToFirst}
use Rattle.rn_bag.specs.Cuts.{has_first_step, has_first, is_before, AllBefore, NoneBefore, NoneBelow, Ascends}
use Rattle.rn_bag.proofs.SlotLemmas.{all_joined, all_suffix, all_weaker}
use Rattle.rn_bag.proofs.AscendingLemmas.{below, order, below_through, not_itself, same_value_is, ascends_suffix}

-- tuples stand by their parts, after numbers and texts, and before lists and instances
cmp_tuples : (xs ys : List Value) → value_cmp (Value.Tuple xs) (Value.Tuple ys) ≡ slice_cmp value_cmp xs ys
cmp_tuples xs ys = value_cmp-out (Value.Tuple xs) (Value.Tuple ys) ∙ rw (Value.outs-Tuple xs, Value.outs-Tuple ys)

int_below : (n : ℤ) (ys : List Value) → value_cmp (Value.Int n) (Value.Tuple ys) ≡ Less
int_below n ys = value_cmp-out (Value.Int n) (Value.Tuple ys) ∙ rw (Value.outs-Int n, Value.outs-Tuple ys)

text_below : (s : List ℕ) (ys : List Value) → value_cmp (Value.Text s) (Value.Tuple ys) ≡ Less
text_below s ys = value_cmp-out (Value.Text s) (Value.Tuple ys) ∙ rw (Value.outs-Text s, Value.outs-Tuple ys)

list_above : (xs ys : List Value) → value_cmp (Value.Tuple ys) (Value.List xs) ≡ Less
list_above xs ys = value_cmp-out (Value.Tuple ys) (Value.List xs) ∙ rw (Value.outs-Tuple ys, Value.outs-List xs)

inst_above : (i : InstRef) (ys : List Value) → value_cmp (Value.Tuple ys) (Value.Inst i) ≡ Less
inst_above i ys = value_cmp-out (Value.Tuple ys) (Value.Inst i) ∙ rw (Value.outs-Tuple ys, Value.outs-Inst i)

-- a value made of its layer
abbrev made : V.Value-F Value → Value
made (V.Int n) = Value.Int n
made (V.Text s) = Value.Text s
made (V.Tuple xs) = Value.Tuple xs
made (V.List xs) = Value.List xs
made (V.Inst i) = Value.Inst i

made_rolls : (x : V.Value-F Value) → made x ≡ roll-Value x
made_rolls (V.Int n) = sym (roll-out-Value (Value.Int n)) ∙ ap roll-Value (Value.outs-Int n)
made_rolls (V.Text s) = sym (roll-out-Value (Value.Text s)) ∙ ap roll-Value (Value.outs-Text s)
made_rolls (V.Tuple xs) = sym (roll-out-Value (Value.Tuple xs)) ∙ ap roll-Value (Value.outs-Tuple xs)
made_rolls (V.List xs) = sym (roll-out-Value (Value.List xs)) ∙ ap roll-Value (Value.outs-List xs)
made_rolls (V.Inst i) = sym (roll-out-Value (Value.Inst i)) ∙ ap roll-Value (Value.outs-Inst i)

made_again : (v : Value) → made (out-Value v) ≡ v
made_again v = made_rolls (out-Value v) ∙ roll-out-Value v

then_not_lt : (a b : Ordering) → is_lt (ordering_then a b) ≡ false → is_lt a ≡ false
then_not_lt Less b e = e
then_not_lt Equal b e = refl
then_not_lt Greater b e = refl

then_lt : (a b : Ordering) → is_lt b ≡ false → is_lt (ordering_then a b) ≡ is_lt a
then_lt Less b e = refl
then_lt Equal b e = e
then_lt Greater b e = refl

past_nothing : (ps : List Value) → is_lt (slice_cmp value_cmp ps []) ≡ false
past_nothing [] = refl
past_nothing (p ∷ ps) = refl

-- a tuple is below the least one with a first part just where its own first part is below that
pub tuple_below : (p key : Value) (ps : List Value) → is_lt (value_cmp (Value.Tuple (p ∷ ps)) (Value.Tuple (key ∷ []))) ≡ is_lt (value_cmp p key)
tuple_below p key ps = ap is_lt (cmp_tuples (p ∷ ps) (key ∷ [])) ∙ then_lt (value_cmp p key) (slice_cmp value_cmp ps []) (past_nothing ps)

pub first_part_below : (p key v : Value) (parts : List Value) → p ≡ get_or parts 0 p → 1 ≤ length parts → v ≡ Value.Tuple parts → is_lt (value_cmp p key) ≡ is_lt (value_cmp v (Value.Tuple (key ∷ [])))
first_part_below p key v [] is some tuple = absurd (omega arith)
first_part_below p key v (q ∷ qs) is some tuple =
    ap (λ z. is_lt (value_cmp z key)) is ∙ sym (ap (λ z. is_lt (value_cmp z (Value.Tuple (key ∷ [])))) tuple ∙ tuple_below q key qs)

not_below : (a : Ordering) → a ≡ Less → is_lt a ≡ false → ⊥
not_below a is high = true≢false (sym (ap is_lt is) ∙ high)

-- what isn't below the least tuple with a first part, and isn't above one of those tuples, is one
between_layers : (key : Value) (x y : V.Value-F Value) → below (made y) (made x) ≡ false → below (made x) (Value.Tuple (key ∷ [])) ≡ false →
    has_first_step key y ≡ true → has_first_step key x ≡ true
between_layers key (V.Int n) y up high first = absurd (not_below _ (int_below n (key ∷ [])) high)
between_layers key (V.Text s) y up high first = absurd (not_below _ (text_below s (key ∷ [])) high)
between_layers key (V.Tuple []) y up high first = absurd (not_below _ (cmp_tuples [] (key ∷ [])) high)
between_layers key (V.Tuple (p ∷ ps)) (V.Tuple (q ∷ qs)) up high first =
    let key_is : key ≡ q = value_cmp-apart key q ((Equal-is (value_cmp key q)).0 first) in
    let not_over : below q p ≡ false = then_not_lt (value_cmp q p) (slice_cmp value_cmp qs ps) (ap is_lt (sym (cmp_tuples (q ∷ qs) (p ∷ ps))) ∙ up) in
    let not_under : below p key ≡ false = then_not_lt (value_cmp p key) (slice_cmp value_cmp ps []) (ap is_lt (sym (cmp_tuples (p ∷ ps) (key ∷ []))) ∙ high) in
    let is : p ≡ key = same_value_is key p not_under (subst (λ z. below z p ≡ false) (sym key_is) not_over) in
    subst (λ z. same_value key z ≡ true) (sym is) (same_itself key)
between_layers key (V.Tuple (p ∷ ps)) _ up high first = absurd (false≢true first)
between_layers key (V.List xs) (V.Tuple (q ∷ qs)) up high first = absurd (not_below _ (list_above xs (q ∷ qs)) up)
between_layers key (V.List xs) _ up high first = absurd (false≢true first)
between_layers key (V.Inst i) (V.Tuple (q ∷ qs)) up high first = absurd (not_below _ (inst_above i (q ∷ qs)) up)
between_layers key (V.Inst i) _ up high first = absurd (false≢true first)

pub between_first : (key x y : Value) → below y x ≡ false → below x (Value.Tuple (key ∷ [])) ≡ false → has_first key y ≡ true → has_first key x ≡ true
between_first key x y up high first =
    between_layers key (out-Value x) (out-Value y)
    (subst (λ z. below (made (out-Value y)) z ≡ false) (sym (made_again x)) (subst (λ z. below z x ≡ false) (sym (made_again y)) up))
    (subst (λ z. below z (Value.Tuple (key ∷ [])) ≡ false) (sym (made_again x)) high) first

-- a tuple that begins with a part isn't below the least of them
first_layer : (key : Value) (x : V.Value-F Value) → has_first_step key x ≡ true → below (made x) (Value.Tuple (key ∷ [])) ≡ false
first_layer key (V.Tuple (p ∷ [])) first =
    let is : key ≡ p = value_cmp-apart key p ((Equal-is (value_cmp key p)).0 first) in
    subst (λ z. below (Value.Tuple (z ∷ [])) (Value.Tuple (key ∷ [])) ≡ false) is (not_itself (Value.Tuple (key ∷ [])))
first_layer key (V.Tuple (p ∷ q ∷ ps)) first =
    let is : key ≡ p = value_cmp-apart key p ((Equal-is (value_cmp key p)).0 first) in
    let tied : value_cmp p key ≡ Equal = ap (λ z. value_cmp z key) (sym is) ∙ (Equal-is (value_cmp key key)).0 (same_itself key) in
    ap is_lt (cmp_tuples (p ∷ q ∷ ps) (key ∷ []) ∙ ap (λ a. ordering_then a Greater) tied)
first_layer key _ first = absurd (false≢true first)

pub first_not_below : (key v : Value) → has_first key v ≡ true → below v (Value.Tuple (key ∷ [])) ≡ false
first_not_below key v first = subst (λ z. below z (Value.Tuple (key ∷ [])) ≡ false) (made_again v) (first_layer key (out-Value v) first)

pub not_first : (key v : Value) → below v (Value.Tuple (key ∷ [])) ≡ true → has_first key v ≡ false
not_first key v low = elim (has_first key v) as (λ t. has_first key v ≡ t → t ≡ false) [
  | true ↦ λ e. absurd (true≢false (sym low ∙ first_not_below key v e))
  | false ↦ λ _. refl
] refl

either_case : (a b c d : Bool) → (c ≡ true → a ≡ true) → (a ≡ false → d ≡ true → b ≡ true) → (c || d) ≡ true → (a || b) ≡ true
either_case true b c d f g e = refl
either_case false b true d f g e = absurd (false≢true (f refl))
either_case false b false d f g e = g refl e

-- what stands before a cut has all before it that it isn't below
pub before_down : (cut : Cut) (key x y : Value) → below y x ≡ false → is_before cut key y ≡ true → is_before cut key x ≡ true
before_down Below key x y up low = below_through x y key up low
before_down UpTo key x y up low = ap not (order.chain key y x (not-true (below key y) low) up)
before_down BelowFirst key x y up low = below_through x y (Value.Tuple (key ∷ [])) up low
before_down UpToFirst key x y up low =
    either_case (below x (Value.Tuple (key ∷ []))) (has_first key x) (below y (Value.Tuple (key ∷ []))) (has_first key y)
    (λ e. below_through x y (Value.Tuple (key ∷ [])) up e) (λ high first. between_first key x y up high first) low

-- and what doesn't has all after it that aren't below it
pub after_up : (cut : Cut) (key x y : Value) → below y x ≡ false → is_before cut key x ≡ false → is_before cut key y ≡ false
after_up cut key x y up high = elim (is_before cut key y) as (λ t. is_before cut key y ≡ t → t ≡ false) [
  | true ↦ λ e. absurd (true≢false (sym (before_down cut key x y up e) ∙ high))
  | false ↦ λ _. refl
] refl

module _ (cut : Cut) (key : Value) where
  abbrev In : Value → Type 0
  In z = is_before cut key z ≡ true

  abbrev Out : Value → Type 0
  Out z = is_before cut key z ≡ false

  -- of ascending values those before y stand before the cut where y does
  pub all_before : (xs : List Value) (y : Value) (ys : List Value) → Ascends (xs ++ y ∷ ys) → is_before cut key y ≡ true → AllBefore cut key xs
  all_before [] y ys up low = tt
  all_before (x ∷ xs) y ys up low =
      let rest : NoneBelow x (y ∷ ys) = all_suffix (λ z. below z x ≡ false) xs (y ∷ ys) up.0 in
      (before_down cut key x y rest.0 low, all_before xs y ys up.1 low)

  -- and those after y don't where y doesn't
  pub none_after : (y : Value) (ys : List Value) → Ascends (y ∷ ys) → is_before cut key y ≡ false → NoneBefore cut key ys
  none_after y ys up high = all_weaker (λ z. below z y ≡ false) Out ys (λ z h. after_up cut key y z h high) up.0

  -- the last of ascending values stands before the cut just where all do
  pub last_before : (w : Value) (xs zs : List Value) (n : ℕ) (r : Bool) → xs ≡ zs → Ascends zs → length xs ≡ n + 1 → w ≡ get_or xs n w → r ≡ is_before cut key w → (r ≡ true) ↔ AllBefore cut key zs
  last_before w xs zs n r same up size is answer =
      let all : take (n + 1) xs ≡ xs = take_all (n + 1) xs (omega arith) in
      let parts : zs ≡ take n xs ++ w ∷ [] = sym same ∙ sym all ∙ take_more xs n w (omega arith) ∙ ap (λ y. take n xs ++ y ∷ []) (sym is) in (
        λ yes. let low : is_before cut key w ≡ true = sym answer ∙ yes in subst (AllBefore cut key) (sym parts) (all_joined In (take n xs) (w ∷ []) (all_before (take n xs) w [] (subst Ascends parts up) low) (low, tt)),
        λ low. let ends : AllBefore cut key (w ∷ []) = all_suffix In (take n xs) (w ∷ []) (subst (AllBefore cut key) parts low) in answer ∙ ends.0,
      )

  -- a step of halving
  pub halved_up : (w : Value) (xs : List Value) (i : ℕ) → Ascends xs → i < length xs → w ≡ get_or xs i w → is_before cut key w ≡ true → AllBefore cut key (take (i + 1) xs)
  halved_up w xs i up within is low =
      let rest : drop i xs ≡ w ∷ drop (i + 1) xs = drop_more xs i w within ∙ ap (λ y. y ∷ drop (i + 1) xs) (sym is) in
      let parts : xs ≡ take i xs ++ w ∷ drop (i + 1) xs = sym (take-append-drop i xs) ∙ ap (λ r. take i xs ++ r) rest in
      let more : take (i + 1) xs ≡ take i xs ++ w ∷ [] = take_more xs i w within ∙ ap (λ y. take i xs ++ y ∷ []) (sym is) in
      subst (AllBefore cut key) (sym more) (all_joined In (take i xs) (w ∷ []) (all_before (take i xs) w (drop (i + 1) xs) (subst Ascends parts up) low) (low, tt))

  pub halved_down : (w : Value) (xs : List Value) (i : ℕ) → Ascends xs → i < length xs → w ≡ get_or xs i w → is_before cut key w ≡ false → NoneBefore cut key (drop i xs)
  halved_down w xs i up within is high =
      let rest : drop i xs ≡ w ∷ drop (i + 1) xs = drop_more xs i w within ∙ ap (λ y. y ∷ drop (i + 1) xs) (sym is) in
      let parts : xs ≡ take i xs ++ w ∷ drop (i + 1) xs = sym (take-append-drop i xs) ∙ ap (λ r. take i xs ++ r) rest in
      subst (NoneBefore cut key) (sym rest) (high, none_after w (drop (i + 1) xs) (ascends_suffix (take i xs) (w ∷ drop (i + 1) xs) (subst Ascends parts up)) high)
