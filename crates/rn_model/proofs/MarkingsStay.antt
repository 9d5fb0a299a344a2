-- Firings lead from markings to markings.
use Rattle.std.proofs.Common.{◌≡◌, ℕ, zero, suc, ◌+◌, ◌<◌, ◌≤◌, List, [], ◌∷◌, ◌++◌, map, length, get_or, refl, sym, ap, ◌∙◌, subst, arith}
use Rattle.std.specs.Prelude.{⊤, All}
use Rattle.std.specs.List.{AllByRecursion, enumerate_from}
use Rattle.std.specs.List.Sorted.{IsSorted, IsStrictlyIncreasing}
use Rattle.std.proofs.lemmas.List.{length-map, map-append}
use Rattle.std.proofs.lemmas.List.FromFn.{length-enumerate_from}
use Rattle.std.proofs.lemmas.List.Elements.{All-from_recursion, recursion_from_All}
use Rattle.rn_value.specs.Order.{value_cmp}
use Rattle.rn_value.specs.declared.value.Value.{Value}
use Rattle.rn_model.specs.declared.system.System.{System}
use Rattle.rn_model.specs.declared.binding.Binding.{Binding}
use Rattle.rn_model.specs.Lists.{ordered_values}
use Rattle.rn_model.specs.Systems.{net_at}
use Rattle.rn_value.specs.declared.value.InstRef.TheVariants.{Old}
use Rattle.rn_model.specs.Demands.{asked_at, puts, rest_at}
use Rattle.rn_model.specs.Markings.{Instance, Marking, IsMarking, fresh_instance}
use Rattle.rn_model.specs.Firing.{Made, Effects, changed_instance, tokens_after, instance_after, new_instance, marking_after}
use Rattle.rn_model.proofs.EachElement.{each_append, each_map, each_weaker}
use Rattle.rn_model.proofs.ValueLists.{ordered_values_ascend}

-- Numbers that ascend.
abbrev pub BelowFirst : ℕ → List ℕ → Type 0
BelowFirst n [] = ⊤
BelowFirst n (k ∷ ks) = n < k

abbrev pub Increases : List ℕ → Type 0
Increases [] = ⊤
Increases (n ∷ ns) = BelowFirst n ns × Increases ns

pub to_strict : (ns : List ℕ) → Increases ns → IsStrictlyIncreasing ns
to_strict [] a k high = absurd (let no : ⊥ = omega (arith, high) in no)
to_strict (n ∷ []) a k high = absurd (let no : ⊥ = omega (arith, high) in no)
to_strict (n ∷ k ∷ ns) a zero high = a.0
to_strict (n ∷ k ∷ ns) a (suc j) high =
    let place : suc j + 1 ≡ suc (j + 1) = omega arith in
    subst (λ i. get_or (k ∷ ns) j 0 < get_or (n ∷ k ∷ ns) i 0) (sym place) (to_strict (k ∷ ns) a.1 j (omega (arith, high)))

first_below : (n : ℕ) (ns : List ℕ) → IsStrictlyIncreasing (n ∷ ns) → BelowFirst n ns
first_below n [] a = tt
first_below n (k ∷ ns) a = a 0 (omega arith)

-- where numbers strictly increase, each is below the next
pub from_strict : (ns : List ℕ) → IsStrictlyIncreasing ns → Increases ns
from_strict [] a = tt
from_strict (n ∷ ns) a = (
  first_below n ns a,
  from_strict ns (λ k high. let place : suc k + 1 ≡ suc (k + 1) = omega arith in subst (λ i. get_or ns k 0 < get_or (n ∷ ns) i 0) place (a (suc k) (omega (arith, high)))),
)

below_all : (n limit : ℕ) (ns : List ℕ) → n < limit → AllByRecursion (λ k. limit ≤ k) ns → BelowFirst n ns
below_all n limit [] low all = tt
below_all n limit (k ∷ ns) low all = omega (arith, low, all.0)

below_joined : (n limit : ℕ) (ns ks : List ℕ) → n < limit → BelowFirst n ns → AllByRecursion (λ k. limit ≤ k) ks → BelowFirst n (ns ++ ks)
below_joined n limit [] ks low first all = below_all n limit ks low all
below_joined n limit (j ∷ ns) ks low first all = first

joined : (limit : ℕ) (ns ks : List ℕ) → Increases ns → AllByRecursion (λ n. n < limit) ns → Increases ks → AllByRecursion (λ k. limit ≤ k) ks → Increases (ns ++ ks)
joined limit [] ks a low b high = b
joined limit (n ∷ ns) ks a low b high = (below_joined n limit ns ks low.0 a.0 high, joined limit ns ks a.1 low.1 b high)

-- An instance as a marking with this next number holds it.
abbrev pub HasForm : System → ℕ → Instance → Type 0
HasForm system next i =
    ((0 < i.number) × (i.number < next)) × (((i.net < length system.nets) × (length i.places ≡ length (net_at system i.net).places)) × All (λ vs. IsSorted value_cmp vs) i.places)

abbrev pub numbers : List Instance → List ℕ
numbers is = map (λ i. i.number) is

pub of_forms : (system : System) (m : Marking) → Increases (numbers m.instances) → AllByRecursion (HasForm system m.next) m.instances → IsMarking system m
of_forms system m increases forms = record {
  ascending = to_strict (numbers m.instances) increases;
  numbered = All-from_recursion (λ i. (0 < i.number) × (i.number < m.next)) m.instances (each_weaker (HasForm system m.next) (λ i. (0 < i.number) × (i.number < m.next)) (λ i f. f.0) m.instances forms);
  placed = All-from_recursion (λ i. (i.net < length system.nets) × (length i.places ≡ length (net_at system i.net).places)) m.instances
      (each_weaker (HasForm system m.next) (λ i. (i.net < length system.nets) × (length i.places ≡ length (net_at system i.net).places)) (λ i f. f.1.0) m.instances forms);
  sorted = All-from_recursion (λ i. All (λ vs. IsSorted value_cmp vs) i.places) m.instances (each_weaker (HasForm system m.next) (λ i. All (λ vs. IsSorted value_cmp vs) i.places) (λ i f. f.1.1) m.instances forms);
}

both_each : {X : Type 0} (P Q : X → Type 0) (xs : List X) → AllByRecursion P xs → AllByRecursion Q xs → AllByRecursion (λ x. P x × Q x) xs
both_each P Q [] p q = tt
both_each P Q (x ∷ xs) p q = ((p.0, q.0), both_each P Q xs p.1 q.1)

forms_of : (system : System) (m : Marking) → IsMarking system m → AllByRecursion (HasForm system m.next) m.instances
forms_of system m is =
    let Numbered = λ (i : Instance). (0 < i.number) × (i.number < m.next) in
    let Placed = λ (i : Instance). (i.net < length system.nets) × (length i.places ≡ length (net_at system i.net).places) in
    let Sorted = λ (i : Instance). All (λ vs. IsSorted value_cmp vs) i.places in
    both_each Numbered (λ i. Placed i × Sorted i) m.instances (recursion_from_All Numbered m.instances is.numbered)
    (both_each Placed Sorted m.instances (recursion_from_All Placed m.instances is.placed) (recursion_from_All Sorted m.instances is.sorted))

-- what holds of everything holds of each element
pub each_of : {X : Type 0} (P : X → Type 0) → ((x : X) → P x) → (xs : List X) → AllByRecursion P xs
each_of P f [] = tt
each_of P f (x ∷ xs) = (f x, each_of P f xs)

abbrev AreSorted : List (List Value) → Type 0
AreSorted places = All (λ vs. IsSorted value_cmp vs) places

-- an instance whose places are changed has as many, and they are sorted where the change sorts
changed_many : (change : ℕ → List Value → List Value) (i : Instance) → length (changed_instance change i).places ≡ length i.places
changed_many change i = length-map (enumerate_from 0 i.places) (λ p. change p.0 p.1) ∙ length-enumerate_from 0 i.places

changed_sorted : (change : ℕ → List Value → List Value) (i : Instance) → ((place : ℕ) (vs : List Value) → IsSorted value_cmp (change place vs)) → AreSorted (changed_instance change i).places
changed_sorted change i sorts =
    All-from_recursion (λ vs. IsSorted value_cmp vs) (changed_instance change i).places
    (each_map (λ vs. IsSorted value_cmp vs) (λ p. change p.0 p.1) (enumerate_from 0 i.places) (each_of (λ p. IsSorted value_cmp (change p.0 p.1)) (λ p. sorts p.0 p.1) (enumerate_from 0 i.places)))

-- an instance as it comes
pub fresh_form : (system : System) (limit n net : ℕ) → 0 < n → n < limit → net < length system.nets → HasForm system limit (fresh_instance system n net)
fresh_form system limit n net low high there = (
  (low, high),
  (
    (there, length-map (net_at system net).places (λ p. ordered_values p.initial)),
    All-from_recursion (λ vs. IsSorted value_cmp vs) (map (λ p. ordered_values p.initial) (net_at system net).places)
        (each_map (λ vs. IsSorted value_cmp vs) (λ p. ordered_values p.initial) (net_at system net).places (each_of (λ p. IsSorted value_cmp (ordered_values p.initial)) (λ p. ordered_values_ascend p.initial) (net_at system net).places)),
  ),
)

module _ (system : System) (b : Binding) (acts : Effects) where
  abbrev after : Instance → Instance
  after = instance_after system b acts

  abbrev new : ℕ × Made → Instance
  new = new_instance system b acts

  after_form : (next limit : ℕ) → next ≤ limit → (i : Instance) → HasForm system next i → HasForm system limit (after i)
  after_form next limit le i f =
      let changed = changed_many (λ place vs. tokens_after system b acts i.number place (rest_at system b (Old i.number) place vs)) i in (
        (f.0.0, omega (arith, f.0.1, le)),
        (
          (f.1.0.0, changed ∙ f.1.0.1),
          changed_sorted (λ place vs. tokens_after system b acts i.number place (rest_at system b (Old i.number) place vs)) i
              (λ place vs. ordered_values_ascend (rest_at system b (Old i.number) place vs ++ asked_at puts system acts.read (Old i.number) place)),
        ),
      )

  new_form : (limit n : ℕ) (m : Made) → 0 < n → n < limit → m.net < length system.nets → HasForm system limit (new (n, m))
  new_form limit n m low high net =
      let fresh = fresh_instance system n m.net in (
        (low, high),
        (
          (net, changed_many (tokens_after system b acts n) fresh ∙ length-map (net_at system m.net).places (λ p. ordered_values p.initial)),
          changed_sorted (tokens_after system b acts n) fresh (λ place vs. ordered_values_ascend (vs ++ asked_at puts system acts.read (Old n) place)),
        ),
      )

  new_forms : (limit n : ℕ) (made : List Made) → 0 < n → n + length made ≤ limit → AllByRecursion (λ m. m.net < length system.nets) made → AllByRecursion (HasForm system limit) (map new (enumerate_from n made))
  new_forms limit n [] low high nets = tt
  new_forms limit n (m ∷ made) low high nets =
      (new_form limit n m low (omega (arith, high)) nets.0, new_forms limit (n + 1) made (omega arith) (omega (arith, high)) nets.1)

  -- the numbers of those that were there stay,
  same_numbers : (is : List Instance) → numbers (map after is) ≡ numbers is
  same_numbers [] = refl
  same_numbers (i ∷ is) = ap (λ ns. i.number ∷ ns) (same_numbers is)

  -- and those of new ones ascend from the next one
  new_at_least : (n : ℕ) (made : List Made) → AllByRecursion (λ k. n ≤ k) (numbers (map new (enumerate_from n made)))
  new_at_least n [] = tt
  new_at_least n (m ∷ made) = (omega arith, each_weaker (λ k. n + 1 ≤ k) (λ k. n ≤ k) (λ k above. omega (arith, above)) (numbers (map new (enumerate_from (n + 1) made))) (new_at_least (n + 1) made))

  new_increase : (n : ℕ) (made : List Made) → Increases (numbers (map new (enumerate_from n made)))
  new_increase n [] = tt
  new_increase n (m ∷ made) =
      (below_all n (n + 1) (numbers (map new (enumerate_from (n + 1) made))) (omega arith) (new_at_least (n + 1) made), new_increase (n + 1) made)

  all_numbers : (is : List Instance) (n : ℕ) (made : List Made) → numbers (map after is ++ map new (enumerate_from n made)) ≡ numbers is ++ numbers (map new (enumerate_from n made))
  all_numbers is n made =
      map-append (λ i. i.number) (map after is) (map new (enumerate_from n made)) ∙ ap (λ ns. ns ++ numbers (map new (enumerate_from n made))) (same_numbers is)

  pub after_is_marking : (m : Marking) (made : List Made) → IsMarking system m → 0 < m.next → AllByRecursion (λ c. c.net < length system.nets) made → IsMarking system (marking_after system m made b acts)
  after_is_marking m made is low nets =
      let old = forms_of system m is in
      let below = each_map (λ n. n < m.next) (λ i. i.number) m.instances (each_weaker (HasForm system m.next) (λ i. i.number < m.next) (λ i f. f.0.1) m.instances old) in
      of_forms system (marking_after system m made b acts)
      (subst Increases (sym (all_numbers m.instances m.next made))
      (joined m.next (numbers m.instances) (numbers (map new (enumerate_from m.next made))) (from_strict (numbers m.instances) is.ascending) below (new_increase m.next made) (new_at_least m.next made)))
      (each_append (HasForm system (m.next + length made)) (map after m.instances) (map new (enumerate_from m.next made))
      (each_map (HasForm system (m.next + length made)) after m.instances
      (each_weaker (HasForm system m.next) (λ i. HasForm system (m.next + length made) (after i)) (after_form m.next (m.next + length made) (omega arith)) m.instances old))
      (new_forms (m.next + length made) m.next made low (omega arith) nets))
