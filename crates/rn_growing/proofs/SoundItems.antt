-- What stands in an item of a binding.
use Rattle.std.proofs.Common.{◌≡◌, true, List, ◌++◌, map, refl, sym, ap, ◌∙◌}
use Rattle.std.specs.Prelude.{Option, Some, None, option_map, option_and_then, slice_get, Contains}
use Rattle.std.specs.Prelude.{filter, flat_map}
use Rattle.std.specs.List.{AllByRecursion, enumerate_from}
use Rattle.std.proofs.lemmas.List.Elements.{All-contains, All-from_recursion, recursion_from_All}
use Rattle.std.proofs.lemmas.List.Elements.{All-contains_itself}
use Rattle.rn_model.specs.declared.expr.Expr.{Expr}
use Rattle.rn_model.specs.declared.system.System.{System}
use Rattle.rn_model.specs.declared.system.Transition.{Transition}
use Rattle.rn_model.specs.declared.binding.Node.{Node}
use Rattle.rn_model.specs.declared.binding.Binding.{Binding}
use Rattle.rn_model.specs.Systems.{transition_of, uplink_args}
use Rattle.rn_model.specs.Derivation.{Site, left, right, uplink_arg, target, downlink_arg, arc}
use Rattle.rn_model.specs.Derivation.{Hole, holes_in, Item, entry, found, computed, finds_values}
use Rattle.rn_model.specs.Derivation.{finds_token, sides_of, args_of, sites_of, node_items}
use Rattle.rn_model.specs.Derivation.{items_of}
use Rattle.rn_model.proofs.EachElement.{each_append, each_map, each_flat_map, each_weaker}
use Rattle.rn_model.proofs.EachElement.{each_filter, each_place}
use Rattle.rn_model.proofs.FormsAtWays.{form_at, holes_of_expr, IsFormOf}

-- what stands in an item
abbrev pub IsSoundItem : System → Binding → Item → Type 0
IsSoundItem system b (entry node) = Contains b.nodes node
IsSoundItem system b (found node k x) =
    Contains b.nodes node × (slice_get (transition_of system node).arcs k ≡ Some x) ×
    (finds_values x.kind ≡ true)
IsSoundItem system b (computed node site hole) =
    Contains b.nodes node ×
    ((e : Expr) × Contains (sites_of (transition_of system node)) (site, e) × Contains (holes_in e)
    hole)

each_of : {A : Type 0} (xs : List A) → AllByRecursion (Contains xs) xs
each_of xs = recursion_from_All (Contains xs) xs (All-contains_itself xs)

module _ (system : System) (b : Binding) where
  abbrev Sound : Item → Type 0
  Sound = IsSoundItem system b

  arcs_sound : (node : Node) → Contains b.nodes node →
      AllByRecursion Sound
      (map (λ e. found node e.0 e.1)
      (filter (λ e. finds_values e.1.kind) (enumerate_from 0 (transition_of system node).arcs)))
  arcs_sound node there =
      each_map Sound (λ e. found node e.0 e.1)
      (filter (λ e. finds_values e.1.kind) (enumerate_from 0 (transition_of system node).arcs))
      (each_filter (λ e. Sound (found node e.0 e.1)) (λ e. finds_values e.1.kind)
      (enumerate_from 0 (transition_of system node).arcs)
      (each_place (λ e. finds_values e.1.kind ≡ true → Sound (found node e.0 e.1))
      (transition_of system node).arcs (λ k x at finds. (there, at, finds))))

  holes_sound : (node : Node) → Contains b.nodes node →
      AllByRecursion Sound
      (flat_map (λ s. map (computed node s.0) (holes_in s.1))
      (sites_of (transition_of system node)))
  holes_sound node there =
      each_flat_map Sound (λ s. map (computed node s.0) (holes_in s.1))
      (sites_of (transition_of system node))
      (each_weaker (Contains (sites_of (transition_of system node)))
      (λ s. AllByRecursion Sound (map (computed node s.0) (holes_in s.1)))
      (λ s stands. each_map Sound (computed node s.0) (holes_in s.1)
      (each_weaker (Contains (holes_in s.1)) (λ hole. Sound (computed node s.0 hole))
      (λ hole is. (there, (s.1, stands, is))) (holes_in s.1) (each_of (holes_in s.1))))
      (sites_of (transition_of system node)) (each_of (sites_of (transition_of system node))))

  node_sound : (node : Node) → Contains b.nodes node →
      AllByRecursion Sound (node_items system node)
  node_sound node there =
      let founds = map (λ e. found node e.0 e.1)
      (filter (λ e. finds_values e.1.kind)
      (enumerate_from 0 (transition_of system node).arcs)) in
      let holes = flat_map (λ s. map (computed node s.0) (holes_in s.1))
      (sites_of (transition_of system node)) in
      (there, each_append Sound founds holes (arcs_sound node there) (holes_sound node there))

  -- each item of a binding is of a node of it, and of what its transition has there
  pub items_sound : (item : Item) → Contains (items_of system b) item → IsSoundItem system b item
  items_sound item there =
      All-contains Sound (items_of system b) item
      (All-from_recursion Sound (items_of system b)
      (each_flat_map Sound (node_items system) b.nodes
      (each_weaker (Contains b.nodes) (λ node. AllByRecursion Sound (node_items system node))
      node_sound b.nodes (each_of b.nodes)))) there

-- the expression at a site
abbrev pub expr_at : Transition → Site → Option Expr
expr_at t (left k) = option_map (λ e. e.0) (slice_get t.equalities k)
expr_at t (right k) = option_map (λ e. e.1) (slice_get t.equalities k)
expr_at t (uplink_arg k) = slice_get (uplink_args t) k
expr_at t (target i) = None
expr_at t (downlink_arg i k) = option_and_then (λ d. slice_get d.args k) (slice_get t.downlinks i)
expr_at t (arc k) = option_map (λ x. x.inscription) (slice_get t.arcs k)

module _ (t : Transition) where
  abbrev Stands : Site × Expr → Type 0
  Stands s = expr_at t s.0 ≡ Some s.1

  abbrev uplinks : List (Site × Expr)
  uplinks = map (λ e. (uplink_arg e.0, e.1)) (enumerate_from 0 (uplink_args t))

  abbrev calls : List (Site × Expr)
  calls = flat_map args_of (enumerate_from 0 t.downlinks)

  abbrev arcs : List (Site × Expr)
  arcs = map (λ e. (arc e.0, e.1.inscription))
      (filter (λ e. finds_token e.1.kind) (enumerate_from 0 t.arcs))

  sites_stand : AllByRecursion Stands (sites_of t)
  sites_stand =
      each_append Stands ((flat_map sides_of (enumerate_from 0 t.equalities) ++ uplinks) ++ calls)
      arcs
      (each_append Stands (flat_map sides_of (enumerate_from 0 t.equalities) ++ uplinks) calls
      (each_append Stands (flat_map sides_of (enumerate_from 0 t.equalities)) uplinks
      (each_flat_map Stands sides_of (enumerate_from 0 t.equalities)
      (each_place (λ e. AllByRecursion Stands (sides_of e)) t.equalities
      (λ k e at. (rw at refl, (rw at refl, tt)))))
      (each_map Stands (λ e. (uplink_arg e.0, e.1)) (enumerate_from 0 (uplink_args t))
      (each_place (λ e. Stands (uplink_arg e.0, e.1)) (uplink_args t) (λ k e at. at))))
      (each_flat_map Stands args_of (enumerate_from 0 t.downlinks)
      (each_place (λ d. AllByRecursion Stands (args_of d)) t.downlinks (λ i d at.
      each_map Stands (λ e. (downlink_arg i e.0, e.1)) (enumerate_from 0 d.args)
      (each_place (λ e. Stands (downlink_arg i e.0, e.1)) d.args (λ k e here. rw at here))))))
      (each_map Stands (λ e. (arc e.0, e.1.inscription))
      (filter (λ e. finds_token e.1.kind) (enumerate_from 0 t.arcs))
      (each_filter (λ e. Stands (arc e.0, e.1.inscription)) (λ e. finds_token e.1.kind)
      (enumerate_from 0 t.arcs)
      (each_place (λ e. finds_token e.1.kind ≡ true → Stands (arc e.0, e.1.inscription)) t.arcs
      (λ k x at finds. rw at refl))))

  some_equal : {A : Type 0} (x y : A) → Some x ≡ Some y → x ≡ y
  some_equal x y e = cc

  form_is : (e : Expr) (hole : Hole) → Contains (holes_in e) hole →
      form_at e hole.way ≡ Some hole.form
  form_is e hole there = All-contains (IsFormOf (form_at e)) (holes_in e) hole
      (All-from_recursion (IsFormOf (form_at e)) (holes_in e) (holes_of_expr e).forms) there

  -- a hole is the one at its site and way
  pub one_hole : (site : Site) (e f : Expr) (one other : Hole) → Contains (sites_of t) (site, e) →
      Contains (holes_in e) one → Contains (sites_of t) (site, f) → Contains (holes_in f) other →
      one.way ≡ other.way → one ≡ other
  one_hole site e f one other e_there in_e f_there in_f way =
      let stands : (g : Expr) → Contains (sites_of t) (site, g) → expr_at t site ≡ Some g =
      λ g there. All-contains Stands (sites_of t) (site, g)
      (All-from_recursion Stands (sites_of t) sites_stand) there in
      let same : e ≡ f = some_equal e f (sym (stands e e_there) ∙ stands f f_there) in
      let forms : one.form ≡ other.form =
      some_equal one.form other.form
      (sym (form_is e one in_e) ∙ ap (form_at e) way ∙ ap (λ g. form_at g other.way) same
      ∙ form_is f other in_f) in
      ap (λ w. record { way = w; form = one.form }) way
      ∙ ap (λ g. record { way = other.way; form = g }) forms
