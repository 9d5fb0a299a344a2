-- What is known of the items of a binding, and of the values of its variables.
use Rattle.std.proofs.Common.{◌≡◌, ℕ, zero, suc, ◌<◌, Bool, true, false, List, [], ◌∷◌, map, length, refl, ap, ◌∙◌, subst, arith}
use Rattle.std.specs.Prelude.{Option, Some, Contains, filter, flat_map, slice_get, nat_eq, zip, if◌then◌else◌}
use Rattle.std.specs.List.{AllByRecursion, enumerate_from}
use Rattle.std.proofs.lemmas.Bool.{eq-eqb, eqb-true}
use Rattle.std.proofs.lemmas.List.Elements.{All-contains, All-from_recursion, recursion_from_All, All-contains_itself}
use Rattle.rn_value.specs.declared.value.Value.{Value}
use Rattle.rn_model.specs.declared.system.System.{System}
use Rattle.rn_model.specs.declared.binding.Node.{Node}
use Rattle.rn_model.specs.declared.binding.Binding.{Binding}
use Rattle.rn_model.specs.Lists.{value_beside}
use Rattle.rn_model.specs.Systems.{transition_of}
use Rattle.rn_model.specs.Derivation.{Item, entry, found, computed, holes_in, sites_of, finds_values, node_items, items_of}
use Rattle.rn_model.proofs.EachElement.{each_append, each_map, each_flat_map, each_weaker, each_filter, each_place}
use Rattle.rn_model.proofs.EnablingLemmas.{not_in_nil}
use Rattle.rn_model.proofs.MarkingsStay.{Increases, each_of}
use Rattle.rn_model.proofs.AskedValues.{later, contained_flat}
use Rattle.rn_model.proofs.HoleValues.{GivesInt, holes_give_ints}

module _ (system : System) (b : Binding) where
  -- an item is of a node that is there: an arc that finds values, or an operator application
  abbrev pub IsOfNode : Item → Type 0
  IsOfNode (entry node) = Contains b.nodes node
  IsOfNode (found node k x) = Contains b.nodes node × (slice_get (transition_of system node).arcs k ≡ Some x) × (finds_values x.kind ≡ true)
  IsOfNode (computed node site hole) = Contains b.nodes node × GivesInt hole

  of_node : (node : Node) → Contains b.nodes node → AllByRecursion IsOfNode (node_items system node)
  of_node node there =
      let t = transition_of system node in
      let arcs = filter (λ e. finds_values e.1.kind) (enumerate_from 0 t.arcs) in
      let founds = map (λ e. found node e.0 e.1) arcs in
      let holes = flat_map (λ s. map (computed node s.0) (holes_in s.1)) (sites_of t) in (
        there,
        each_append IsOfNode founds holes
            (each_map IsOfNode (λ e. found node e.0 e.1) arcs
            (each_filter (λ e. IsOfNode (found node e.0 e.1)) (λ e. finds_values e.1.kind) (enumerate_from 0 t.arcs)
            (each_place (λ e. finds_values e.1.kind ≡ true → IsOfNode (found node e.0 e.1)) t.arcs (λ k x here finds. (there, here, finds)))))
            (each_flat_map IsOfNode (λ s. map (computed node s.0) (holes_in s.1)) (sites_of t)
            (each_of (λ s. AllByRecursion IsOfNode (map (computed node s.0) (holes_in s.1)))
            (λ s. each_map IsOfNode (computed node s.0) (holes_in s.1)
            (each_weaker GivesInt (λ hole. IsOfNode (computed node s.0 hole)) (λ hole gives. (there, gives)) (holes_in s.1) (holes_give_ints s.1))) (sites_of t))),
      )

  -- each item of a binding is of a node of it
  pub item_is_of_node : (item : Item) → Contains (items_of system b) item → IsOfNode item
  item_is_of_node item there =
      All-contains IsOfNode (items_of system b) item
      (All-from_recursion IsOfNode (items_of system b)
      (each_flat_map IsOfNode (node_items system) b.nodes
      (each_weaker (Contains b.nodes) (λ node. AllByRecursion IsOfNode (node_items system node)) of_node b.nodes (recursion_from_All (Contains b.nodes) b.nodes (All-contains_itself b.nodes)))))
      there

  -- each node's entry is an item of the binding
  pub entry_is_item : (node : Node) → Contains b.nodes node → Contains (items_of system b) (entry node)
  entry_is_item node there = contained_flat (node_items system) b.nodes node (entry node) there (0, omega arith, refl)

-- Values beside numbers that ascend.
pub below_each : (x y : ℕ) (xs : List ℕ) → Increases (x ∷ xs) → Contains xs y → x < y
below_each x y [] up there = absurd (not_in_nil y there)
below_each x y (z ∷ xs) up (zero, h, e) = subst (λ w. x < w) e up.0
below_each x y (z ∷ xs) up (suc k, h, e) = let rest = below_each z y xs up.1 (k, omega (arith, h), e) in let first = up.0 in omega (arith, first, rest)

abbrev pub IsBeside : List ℕ → List Value → Value → Type 0
IsBeside xs vs v = (x : ℕ) × Contains xs x × (value_beside (zip xs vs) x ≡ Some v)

passed_by : (x y : ℕ) (v : Value) (rest : Option Value) (same : Bool) → nat_eq x y ≡ same → x < y → (if same then Some v else rest) ≡ rest
passed_by x y v rest true e low = let is : x ≡ y = eqb-true x y e in absurd (let no : ⊥ = omega (arith, is, low) in no)
passed_by x y v rest false e low = refl

beside_itself : (x : ℕ) (v : Value) (rest : Option Value) → (if nat_eq x x then Some v else rest) ≡ Some v
beside_itself x v rest = rw (eq-eqb x x refl) refl

-- each value stands beside a number
pub each_beside : (xs : List ℕ) (vs : List Value) (v : Value) → Increases xs → length vs ≡ length xs → Contains vs v → IsBeside xs vs v
each_beside xs [] v up many there = absurd (not_in_nil v there)
each_beside [] (w ∷ vs) v up many there = absurd (let no : ⊥ = omega (arith, many) in no)
each_beside (x ∷ xs) (w ∷ vs) v up many (zero, h, e) = (x, (0, omega arith, refl), beside_itself x w (value_beside (zip xs vs) x) ∙ ap Some e)
each_beside (x ∷ xs) (w ∷ vs) v up many (suc k, h, e) =
    let found = each_beside xs vs v up.1 (omega (arith, many)) (k, omega (arith, h), e) in
    (found.0, later x found.0 xs found.1, passed_by x found.0 w (value_beside (zip xs vs) found.0) (nat_eq x found.0) refl (below_each x found.0 xs up found.1) ∙ found.2)
