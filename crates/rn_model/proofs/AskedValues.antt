-- What is among the values that a binding asks of a place, and what a marking that fits then holds.
use Rattle.std.proofs.Common.{◌≡◌, ℕ, zero, suc, ◌<◌, ◌⊎◌, Bool, true, false, List, [], ◌∷◌, map, refl, sym, ap, ◌∙◌, subst, inl, inr, arith}
use Rattle.std.specs.Prelude.{Some, Contains, flat_map, slice_get, nat_eq}
use Rattle.std.specs.Ordering.{is_eq, nat_cmp}
use Rattle.std.specs.Cmp.{Equal-is, tied_itself}
use Rattle.std.proofs.lemmas.Cmp.{nat_cmp_total, nat_list_cmp_total}
use Rattle.std.proofs.lemmas.Bool.{eq-eqb}
use Rattle.std.proofs.lemmas.List.Elements.{Contains-append_left, Contains-append_right, Contains-append_cases}
use Rattle.rn_value.specs.Order.{value_cmp, inst_cmp}
use Rattle.rn_value.specs.link.OrderLaws.{value_cmp-total}
use Rattle.rn_value.specs.declared.value.InstRef.{InstRef}
use Rattle.rn_value.specs.declared.value.InstRef.TheVariants.{Old, New}
use Rattle.rn_value.specs.declared.value.Value.{Value}
use Rattle.rn_model.specs.declared.system.System.{System}
use Rattle.rn_model.specs.declared.system.ArcKind.{ArcKind}
use Rattle.rn_model.specs.declared.system.ArcKind.TheVariants.{Input, Output, Test, Reserve, FlexInput, FlexOutput, Inhibit, Clear}
use Rattle.rn_model.specs.declared.system.NetArc.{NetArc}
use Rattle.rn_model.specs.declared.binding.Node.{Node}
use Rattle.rn_model.specs.declared.binding.Binding.{Binding}
use Rattle.rn_model.specs.Lists.{same_value, count_of, ordered_values, without_each}
use Rattle.rn_model.specs.Systems.{transition_of}
use Rattle.rn_model.specs.Evaluation.{worth}
use Rattle.rn_model.specs.Bindings.{env_of}
use Rattle.rn_model.specs.Demands.{Reading, readings, elements, takes, tests, clears, asked_by_arc, asked_by_node, asked_at, taken_at, cleared_at}
use Rattle.rn_model.specs.Markings.{Marking, tokens}
use Rattle.rn_model.specs.Derivation.{finds_values}
use Rattle.rn_model.specs.Enabling.{PlaceFits}
use Rattle.rn_model.proofs.EnablingLemmas.{not_in_nil, the_one}
use Rattle.rn_model.proofs.ValueLists.{one_if, count_of-cons, same_is, ordered_values_stay, others_are_taken}

-- What is in a list that is made from others.
pub later : {X : Type 0} (y x : X) (xs : List X) → Contains xs x → Contains (y ∷ xs) x
later y x xs (k, h, e) = (suc k, omega (arith, h), e)

-- a mapped list holds what each element is mapped to
pub contained_mapped : {X Y : Type 0} (f : X → Y) (xs : List X) (x : X) → Contains xs x → Contains (map f xs) (f x)
contained_mapped f [] x there = absurd (not_in_nil x there)
contained_mapped f (y ∷ xs) x (zero, h, e) = (0, omega arith, ap f e)
contained_mapped f (y ∷ xs) x (suc k, h, e) = later (f y) (f x) (map f xs) (contained_mapped f xs x (k, omega (arith, h), e))

-- and nothing else
pub map_source : {X Y : Type 0} (f : X → Y) (xs : List X) (y : Y) → Contains (map f xs) y → (x : X) × Contains xs x × (f x ≡ y)
map_source f [] y there = absurd (not_in_nil y there)
map_source f (x ∷ xs) y (zero, h, e) = (x, (0, omega arith, refl), e)
map_source f (x ∷ xs) y (suc k, h, e) = let there = map_source f xs y (k, omega (arith, h), e) in (there.0, later x there.0 xs there.1, there.2)

-- joined, the lists of all elements hold what the list of one holds
pub contained_flat : {X Y : Type 0} (f : X → List Y) (xs : List X) (x : X) (y : Y) → Contains xs x → Contains (f x) y → Contains (flat_map f xs) y
contained_flat f [] x y there has = absurd (not_in_nil x there)
contained_flat f (z ∷ xs) x y (zero, h, e) has = Contains-append_left (f z) (flat_map f xs) y (subst (λ w. Contains (f w) y) (sym e) has)
contained_flat f (z ∷ xs) x y (suc k, h, e) has = Contains-append_right (f z) (flat_map f xs) y (contained_flat f xs x y (k, omega (arith, h), e) has)

-- and nothing else
pub flat_source : {X Y : Type 0} (f : X → List Y) (xs : List X) (y : Y) → Contains (flat_map f xs) y → (x : X) × Contains xs x × Contains (f x) y
flat_source f [] y there = absurd (not_in_nil y there)
flat_source {X} f (x ∷ xs) y there = elim (Contains-append_cases (f x) (flat_map f xs) y there) as (λ _. (z : X) × Contains (x ∷ xs) z × Contains (f z) y) [
  | inl here ↦ (x, (0, omega arith, refl), here)
  | inr others ↦ let found = flat_source f xs y others in (found.0, later x found.0 xs found.1, found.2)
]

-- what stands at an index is in the list
pub got_contained : {X : Type 0} (xs : List X) (k : ℕ) (x : X) → slice_get xs k ≡ Some x → Contains xs x
got_contained [] k x e = absurd (let no : ⊥ = cc in no)
got_contained (y ∷ xs) zero x e = let same : y ≡ x = cc in (0, omega arith, same)
got_contained (y ∷ xs) (suc k) x e = later y x xs (got_contained xs k x e)

-- A value is in a list where it is there at least once.
pub same_itself : (v : Value) → same_value v v ≡ true
same_itself v = (Equal-is (value_cmp v v)).1 (tied_itself value_cmp-total v)

once_or_more : (v w : Value) (ws : List Value) (same : Bool) → same_value v w ≡ same → 0 < count_of v (w ∷ ws) → (0 < count_of v ws → Contains ws v) → Contains (w ∷ ws) v
once_or_more v w ws true e h others = (0, omega arith, sym (same_is v w e))
once_or_more v w ws false e h others =
    let none : one_if (same_value v w) ≡ 0 = ap one_if e in
    let whole = count_of-cons v w ws in
    later w v ws (others (omega (arith, none, whole, h)))

-- a value that counts at least once is there
pub counted : (v : Value) (ws : List Value) → 0 < count_of v ws → Contains ws v
counted v [] h = absurd (let no : ⊥ = omega (arith, h) in no)
counted v (w ∷ ws) h = once_or_more v w ws (same_value v w) refl h (counted v ws)

-- and one that is there counts at least once
pub is_counted : (v : Value) (ws : List Value) → Contains ws v → 0 < count_of v ws
is_counted v [] there = absurd (not_in_nil v there)
is_counted v (w ∷ ws) (zero, h, e) =
    let one : one_if (same_value v w) ≡ 1 = ap one_if (ap (same_value v) e ∙ same_itself v) in
    let whole = count_of-cons v w ws in
    omega (arith, one, whole)
is_counted v (w ∷ ws) (suc k, h, e) =
    let rest = is_counted v ws (k, omega (arith, h), e) in
    let whole = count_of-cons v w ws in
    omega (arith, rest, whole)

-- a value is still there when the values are ordered
pub in_ordered : (v : Value) (vs : List Value) → Contains vs v → Contains (ordered_values vs) v
in_ordered v vs there =
    let some = is_counted v vs there in
    let same = ordered_values_stay vs v in
    counted v (ordered_values vs) (omega (arith, some, same))

-- and one that is there then was there before
pub from_ordered : (v : Value) (vs : List Value) → Contains (ordered_values vs) v → Contains vs v
from_ordered v vs there =
    let some = is_counted v (ordered_values vs) there in
    let same = ordered_values_stay vs v in
    counted v vs (omega (arith, some, same))

pub from_rest : (v : Value) (ws vs : List Value) → Contains (without_each ws vs) v → Contains ws v
from_rest v ws vs there =
    let some = is_counted v (without_each ws vs) there in
    let less = others_are_taken ws vs v in
    counted v ws (omega (arith, some, less))

-- in the order of instances each is equal to itself
pub inst_itself : (i : InstRef) → is_eq (inst_cmp i i) ≡ true
inst_itself (Old n) = (Equal-is (nat_cmp n n)).1 (tied_itself nat_cmp_total n)
inst_itself (New path j) = rw (tied_itself nat_list_cmp_total path, tied_itself nat_cmp_total j) refl

module _ (system : System) (b : Binding) where
  module _ {A : Type 0} (pick : ArcKind → Value → List A) where
    -- what an arc asks is asked at its place
    asked : (node : Node) (x : NetArc) (v : Value) (a : A) → Contains b.nodes node → Contains (transition_of system node).arcs x → worth x.inscription (env_of system node) ≡ Some v → Contains (pick x.kind v) a →
        Contains (asked_at pick system (readings system b) node.inst x.place) a
    asked node x v a there arc is has =
        let r : Reading = record { node = node; env = env_of system node } in
        let place : nat_eq x.place x.place ≡ true = eq-eqb x.place x.place refl in
        let by_arc : Contains (asked_by_arc pick (env_of system node) x.place x) a = rw (place, is) has in
        let by_arcs = contained_flat (asked_by_arc pick (env_of system node) x.place) (transition_of system node).arcs x a arc by_arc in
        let by_node : Contains (asked_by_node pick system node.inst x.place r) a = rw (inst_itself node.inst) by_arcs in
        contained_flat (asked_by_node pick system node.inst x.place) (readings system b) r a (contained_mapped (λ node. record { node = node; env = env_of system node }) b.nodes node there) by_node

  -- The arc finds a value: it is among the tokens of its place, or it is the list of them.
  abbrev pub IsFound : Marking → Node → NetArc → Value → Type 0
  IsFound m node x v = Contains (tokens m node.inst x.place) v ⊎ ((x.kind ≡ Clear) × (elements v ≡ tokens m node.inst x.place))

  module _ (m : Marking) (node : Node) (x : NetArc) (v : Value) (there : Contains b.nodes node) (arc : Contains (transition_of system node).arcs x) (is : worth x.inscription (env_of system node) ≡ Some v)
      (fits : PlaceFits system m b node.inst x.place) where
    taken : Contains (takes x.kind v) v → Contains (tokens m node.inst x.place) v
    taken has =
        let listed = asked takes node x v v there arc is has in
        let some = is_counted v (taken_at system b node.inst x.place) (in_ordered v (asked_at takes system (readings system b) node.inst x.place) listed) in
        let enough = fits.enough v in
        counted v (tokens m node.inst x.place) (omega (arith, some, enough))

    tested : Contains (tests x.kind v) v → Contains (tokens m node.inst x.place) v
    tested has =
        let listed = asked tests node x v v there arc is has in
        let left = fits.left v (in_ordered v (asked_at tests system (readings system b) node.inst x.place) listed) in
        let held = tokens m node.inst x.place in
        from_rest v held (taken_at system b node.inst x.place)
        (from_rest v (without_each held (taken_at system b node.inst x.place)) (flat_map (λ vs. vs) (cleared_at system b node.inst x.place)) left)

    -- what a clear arc finds is the list of the tokens of its place
    pub cleared : Contains (clears x.kind v) (elements v) → elements v ≡ tokens m node.inst x.place
    cleared has =
        let listed = asked clears node x v (elements v) there arc is has in
        elim fits.whole as (λ _. elements v ≡ tokens m node.inst x.place) [
          | inl none ↦ absurd (not_in_nil (elements v) (subst (λ vs. Contains vs (elements v)) none listed))
          | inr one ↦ sym (the_one (tokens m node.inst x.place) (elements v) (subst (λ vs. Contains vs (elements v)) one.0 listed))
        ]

    by_kind : (kind : ArcKind) → x.kind ≡ kind → finds_values kind ≡ true → IsFound m node x v
    by_kind Input e finds = inl (taken (subst (λ kind. Contains (takes kind v) v) (sym e) (0, omega arith, refl)))
    by_kind Reserve e finds = inl (taken (subst (λ kind. Contains (takes kind v) v) (sym e) (0, omega arith, refl)))
    by_kind Test e finds = inl (tested (subst (λ kind. Contains (tests kind v) v) (sym e) (0, omega arith, refl)))
    by_kind Clear e finds = inr (e, cleared (subst (λ kind. Contains (clears kind v) (elements v)) (sym e) (0, omega arith, refl)))
    by_kind Output e finds = absurd (let no : ⊥ = cc in no)
    by_kind FlexInput e finds = absurd (let no : ⊥ = cc in no)
    by_kind FlexOutput e finds = absurd (let no : ⊥ = cc in no)
    by_kind Inhibit e finds = absurd (let no : ⊥ = cc in no)

    -- what an arc finds in a place that fits
    pub is_found : finds_values x.kind ≡ true → IsFound m node x v
    is_found finds = by_kind x.kind refl finds
