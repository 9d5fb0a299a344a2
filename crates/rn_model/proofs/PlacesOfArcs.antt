-- Places that no arc names fit.
use Rattle.std.proofs.Common.{◌≡◌, ℕ, Bool, true, false, ◌&&◌, List, [], ◌∷◌, ◌++◌, map, refl}
use Rattle.std.proofs.Common.{ap, ◌∙◌, subst}
use Rattle.std.specs.Prelude.{Contains, flat_map, nat_eq, if◌then◌else◌}
use Rattle.std.specs.List.{list_any}
use Rattle.std.specs.Option.{option_map_or}
use Rattle.std.specs.Ordering.{is_eq}
use Rattle.std.specs.Cmp.{Equal-is}
use Rattle.std.proofs.lemmas.Bool.{eqb-true, or_parts}
use Rattle.rn_value.specs.Order.{inst_cmp}
use Rattle.rn_value.specs.declared.value.InstRef.{InstRef}
use Rattle.rn_value.specs.declared.value.Value.{Value}
use Rattle.rn_model.specs.declared.system.System.{System}
use Rattle.rn_model.specs.declared.system.ArcKind.{ArcKind}
use Rattle.rn_model.specs.declared.system.NetArc.{NetArc}
use Rattle.rn_model.specs.declared.binding.Node.{Node}
use Rattle.rn_model.specs.declared.binding.Binding.{Binding}
use Rattle.rn_model.specs.Lists.{ordered_values}
use Rattle.rn_model.specs.Systems.{transition_of}
use Rattle.rn_model.specs.Evaluation.{Env, worth}
use Rattle.rn_model.specs.Bindings.{env_of}
use Rattle.rn_model.specs.Demands.{Reading, asked_by_arc, asked_by_node, takes}
use Rattle.rn_model.specs.Demands.{tests, inhibits, clears}
use Rattle.rn_model.specs.Markings.{Marking}
use Rattle.rn_model.specs.Enabling.{PlaceFits}
use Rattle.rn_model.specs.FittingLaws.{PlacesFitByArcs}
use Rattle.rn_value.specs.link.OrderLaws.{insts_apart}
use Rattle.rn_model.proofs.EnablingLemmas.{idle}
use Rattle.rn_model.proofs.LiveByRounds.{any_contained}
use Rattle.rn_items.proofs.Bools.{both_true}

module _ (system : System) (inst : InstRef) (place : ℕ) where
  abbrev at_place : NetArc → Bool
  at_place arc = nat_eq arc.place place

  -- whether a node stands on the instance and an arc of it names the place
  abbrev names : Node → Bool
  names node = is_eq (inst_cmp node.inst inst) && list_any at_place (transition_of system node).arcs

  module _ {A : Type 0} (pick : ArcKind → Value → List A) where
    no_arc : (env : Env) (arcs : List NetArc) → list_any at_place arcs ≡ false →
        flat_map (asked_by_arc pick env place) arcs ≡ []
    no_arc env [] e = refl
    no_arc env (arc ∷ arcs) e =
        let both = or_parts (at_place arc) (list_any at_place arcs) e in
        let own = option_map_or (pick arc.kind) (worth arc.inscription env) [] in
        let later = flat_map (asked_by_arc pick env place) arcs in
        ap (λ here. (if here then own else []) ++ later) both.0
        ∙ no_arc env arcs both.1

    abbrev reading : Node → Reading
    reading node = record { node = node; env = env_of system node }

    if_both : (here has : Bool) (xs : List A) → here && has ≡ false → (has ≡ false → xs ≡ []) →
        (if here then xs else []) ≡ []
    if_both true has xs e none = none e
    if_both false has xs e none = refl

    no_node : (node : Node) → names node ≡ false →
        asked_by_node pick system inst place (reading node) ≡ []
    no_node node e =
        let arcs = (transition_of system node).arcs in
        if_both (is_eq (inst_cmp node.inst inst)) (list_any at_place arcs)
        (flat_map (asked_by_arc pick (env_of system node) place) arcs) e
        (no_arc (env_of system node) arcs)

    nothing_asked : (nodes : List Node) → list_any names nodes ≡ false →
        flat_map (asked_by_node pick system inst place) (map reading nodes) ≡ []
    nothing_asked [] e = refl
    nothing_asked (node ∷ nodes) e =
        let both = or_parts (names node) (list_any names nodes) e in
        let asked = asked_by_node pick system inst place in
        ap (λ xs. xs ++ flat_map asked (map reading nodes)) (no_node node both.0)
        ∙ nothing_asked nodes both.1

module _ (system : System) (m : Marking) (b : Binding)
    (fit : (node : Node) (arc : NetArc) → Contains b.nodes node →
    Contains (transition_of system node).arcs arc → PlaceFits system m b node.inst arc.place)
    (inst : InstRef) (place : ℕ) where
  by_names : (named : Bool) → list_any (names system inst place) b.nodes ≡ named →
      PlaceFits system m b inst place
  by_names false e =
      idle system m b inst place
      (ap ordered_values (nothing_asked system inst place takes b.nodes e))
      (ap ordered_values (nothing_asked system inst place tests b.nodes e))
      (ap ordered_values (nothing_asked system inst place inhibits b.nodes e))
      (nothing_asked system inst place clears b.nodes e)
  by_names true e =
      let node = any_contained (names system inst place) b.nodes e in
      let arcs = (transition_of system node.0).arcs in
      let both = both_true (is_eq (inst_cmp node.0.inst inst))
      (list_any (at_place system inst place) arcs) node.2 in
      let arc = any_contained (at_place system inst place) arcs both.1 in
      let same : node.0.inst ≡ inst =
      insts_apart node.0.inst inst ((Equal-is (inst_cmp node.0.inst inst)).0 both.0) in
      let here : arc.0.place ≡ place = eqb-true arc.0.place place arc.2 in
      subst (λ p. PlaceFits system m b inst p) here
      (subst (λ i. PlaceFits system m b i arc.0.place) same (fit node.0 arc.0 node.1 arc.1))

pub places_fit_by_arcs : PlacesFitByArcs
places_fit_by_arcs system m b fit inst place =
    by_names system m b fit inst place (list_any (names system inst place) b.nodes) refl
