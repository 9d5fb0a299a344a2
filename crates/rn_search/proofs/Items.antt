-- The items of a node of a binding.
use Rattle.std.proofs.Common.{◌≡◌, ℕ, zero, suc, ◌+◌, Bool, true, false, List, [], ◌∷◌, ◌++◌}
use Rattle.std.proofs.Common.{map, refl}
use Rattle.std.proofs.Common.{ap, ◌∙◌, subst, arith}
use Rattle.std.specs.Prelude.{Some, Contains, filter, flat_map, slice_get, if◌then◌else◌}
use Rattle.std.specs.List.{enumerate_from}
use Rattle.std.proofs.lemmas.List.Elements.{Contains-append_left, Contains-append_right}
use Rattle.rn_model.specs.declared.expr.Expr.{Expr}
use Rattle.rn_model.specs.declared.system.System.{System}
use Rattle.rn_model.specs.declared.system.NetArc.{NetArc}
use Rattle.rn_model.specs.declared.binding.Node.{Node}
use Rattle.rn_model.specs.declared.binding.Binding.{Binding}
use Rattle.rn_model.specs.declared.system.Transition.{Transition}
use Rattle.rn_model.specs.Systems.{transition_of, uplink_args}
use Rattle.rn_model.specs.Derivation.{Hole, holes_in, sites_of, Item, entry, found, computed}
use Rattle.rn_model.specs.Derivation.{finds_values, arcs_that, computed_at, node_items, items_of}
use Rattle.rn_model.specs.Derivation.{finds_token, sides_of, args_of}
use Rattle.rn_model.specs.Derivation as D
use Rattle.rn_model.proofs.AskedValues.{later, contained_mapped, contained_flat}
use Rattle.rn_model.proofs.EnablingLemmas.{not_in_nil}
use Rattle.rn_model.proofs.IndicesInLists.{in_enumerated}

kept_first : {X : Type 0} (keeps : Bool) (x : X) (xs : List X) → keeps ≡ true →
    Contains (if keeps then x ∷ xs else xs) x
kept_first true x xs e = (0, omega arith, refl)
kept_first false x xs e = absurd (let no : ⊥ = cc in no)

kept_later : {X : Type 0} (keeps : Bool) (y x : X) (xs : List X) → Contains xs x →
    Contains (if keeps then y ∷ xs else xs) x
kept_later true y x xs there = later y x xs there
kept_later false y x xs there = there

-- an element that passes is among those that do
pub in_filter : {X : Type 0} (p : X → Bool) (xs : List X) (x : X) → Contains xs x →
    p x ≡ true → Contains (filter p xs) x
in_filter p [] x there passes = absurd (not_in_nil x there)
in_filter p (y ∷ xs) x (zero, h, e) passes =
    subst (Contains (filter p (y ∷ xs))) e
    (kept_first (p y) y (filter p xs) (ap p e ∙ passes))
in_filter p (y ∷ xs) x (suc k, h, e) passes =
    kept_later (p y) y x (filter p xs) (in_filter p xs x (k, omega (arith, h), e) passes)

module _ (system : System) (b : Binding) (node : Node) (there : Contains b.nodes node) where
  abbrev own : Item → Type 0
  own item = Contains (items_of system b) item

  of_node : (item : Item) → Contains (node_items system node) item → own item
  of_node item is = contained_flat (node_items system) b.nodes node item there is

  abbrev founds : List Item
  founds = map (λ e. found node e.0 e.1) (arcs_that finds_values (transition_of system node))

  abbrev holes : List Item
  holes = flat_map (computed_at node) (sites_of (transition_of system node))

  pub found_is_item : (k : ℕ) (x : NetArc) →
      slice_get (transition_of system node).arcs k ≡ Some x → finds_values x.kind ≡ true →
      own (found node k x)
  found_is_item k x at finds =
      let arcs = (transition_of system node).arcs in
      let place : 0 + k ≡ k = omega arith in
      let listed : Contains (enumerate_from 0 arcs) (k, x) =
      subst (λ j. Contains (enumerate_from 0 arcs) (j, x)) place (in_enumerated 0 arcs k x at) in
      let kept = in_filter (λ e. finds_values e.1.kind) (enumerate_from 0 arcs) (k, x) listed
      finds in
      let mapped = contained_mapped (λ e. found node e.0 e.1)
      (arcs_that finds_values (transition_of system node)) (k, x) kept in
      of_node (found node k x)
      (later (entry node) (found node k x) (founds ++ holes)
      (Contains-append_left founds holes (found node k x) mapped))

  pub computed_is_item : (site : D.Site) (e : Expr) (hole : Hole) →
      Contains (sites_of (transition_of system node)) (site, e) → Contains (holes_in e) hole →
      own (computed node site hole)
  computed_is_item site e hole stands is =
      let mapped = contained_mapped (computed node site) (holes_in e) hole is in
      let flat = contained_flat (computed_at node) (sites_of (transition_of system node))
      (site, e) (computed node site hole) stands mapped in
      of_node (computed node site hole)
      (later (entry node) (computed node site hole) (founds ++ holes)
      (Contains-append_right founds holes (computed node site hole) flat))

-- the expressions of a transition but inscriptions
abbrev before_arcs : Transition → List (D.Site × Expr)
before_arcs t =
    flat_map sides_of (enumerate_from 0 t.equalities)
    ++ map (λ e. (D.uplink_arg e.0, e.1)) (enumerate_from 0 (uplink_args t))
    ++ flat_map args_of (enumerate_from 0 t.downlinks)

-- the inscription of an arc that finds a token stands at its site
pub inscription_stands : (t : Transition) (k : ℕ) (x : NetArc) → slice_get t.arcs k ≡ Some x →
    finds_token x.kind ≡ true → Contains (sites_of t) (D.arc k, x.inscription)
inscription_stands t k x at finds =
    let place : 0 + k ≡ k = omega arith in
    let listed : Contains (enumerate_from 0 t.arcs) (k, x) =
    subst (λ j. Contains (enumerate_from 0 t.arcs) (j, x)) place (in_enumerated 0 t.arcs k x at) in
    let kept = in_filter (λ e. finds_token e.1.kind) (enumerate_from 0 t.arcs) (k, x) listed
    finds in
    let mapped = contained_mapped (λ e. (D.arc e.0, e.1.inscription)) (arcs_that finds_token t)
    (k, x)
    kept in
    Contains-append_right (before_arcs t)
    (map (λ e. (D.arc e.0, e.1.inscription)) (arcs_that finds_token t))
    (D.arc k, x.inscription) mapped
