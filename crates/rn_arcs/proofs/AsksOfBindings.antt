-- What the asks of a binding ask of a place is what the binding asks there.
use Rattle.std.proofs.Common.{◌≡◌, Bool, true, false, cond, ◌&&◌, List, [], ◌∷◌}
use Rattle.std.proofs.Common.{refl, sym, ap, ◌∙◌}
use Rattle.std.specs.Prelude.{Option, Some, None, nat_eq}
use Rattle.std.specs.List.{flat_map}
use Rattle.std.specs.Option.{option_map_or}
use Rattle.std.specs.Ordering.{is_eq}
use Rattle.std.proofs.lemmas.List.Folds.{flat_map-map}
use Rattle.rn_value.specs.Order.{inst_cmp}
use Rattle.rn_value.specs.declared.value.InstRef.{InstRef}
use Rattle.rn_value.specs.declared.value.Value.{Value}
use Rattle.rn_model.specs.declared.system.System.{System}
use Rattle.rn_model.specs.declared.system.ArcKind.{ArcKind}
use Rattle.rn_model.specs.declared.system.NetArc.{NetArc}
use Rattle.rn_model.specs.declared.binding.Node.{Node}
use Rattle.rn_model.specs.declared.binding.Binding.{Binding}
use Rattle.rn_model.specs.Bindings.{env_of}
use Rattle.rn_model.specs.Demands.{Reading, readings, asked_by_arc, asked_by_node, asked_at}
use Rattle.rn_model.specs.Evaluation.{Env, worth}
use Rattle.rn_model.specs.Systems.{transition_of}
use Rattle.rn_arcs.specs.link.Asks.{place_asked, is_wanted, arc_asks, node_asks, binding_asks}
use Rattle.rn_arcs.specs.Places.{InstPlace}
use Rattle.rn_arcs.specs.declared.ask.Ask.{Ask}
use Rattle.rn_arcs.proofs.Gathering.{at_place, at_place-one, at_place-flat, flat_nothing, nil}
use Rattle.rn_arcs.proofs.PlaceOrder.{at_both}

module _ {A : Type 0} (pick : ArcKind → Value → List A) (outputs : Bool)
    (nothing : (kind : ArcKind) (v : Value) → is_wanted outputs kind ≡ false → pick kind v ≡ [])
    (k : InstPlace) where
  -- what an ask asks
  abbrev picked : Ask → List A
  picked a = pick a.kind a.value

  abbrev here : List Ask → List A
  here = at_place place_asked picked k

  by_tests : (inst place : Bool) (vs : List A) →
      cond (inst && place) vs [] ≡ cond inst (cond place vs []) []
  by_tests true place vs = refl
  by_tests false place vs = refl

  none_there : (inst place : Bool) → nil A ≡ cond inst (cond place [] []) []
  none_there true true = refl
  none_there true false = refl
  none_there false place = refl

  abbrev ask : InstRef → NetArc → Value → Ask
  ask inst arc v = record { inst = inst; place = arc.place; kind = arc.kind; value = v }

  unwanted : (arc : NetArc) (inst place : Bool) (o : Option Value) →
      is_wanted outputs arc.kind ≡ false →
      nil A ≡ cond inst (cond place (option_map_or (pick arc.kind) o []) []) []
  unwanted arc inst place None e = none_there inst place
  unwanted arc inst place (Some v) e =
      none_there inst place
      ∙ ap (λ vs. cond inst (cond place vs []) []) (sym (nothing arc.kind v e))

  by_value : (inst : InstRef) (arc : NetArc) (wanted : Bool) (o : Option Value) →
      is_wanted outputs arc.kind ≡ wanted →
      here (cond wanted (option_map_or (λ v. ask inst arc v ∷ []) o []) [])
      ≡ cond (is_eq (inst_cmp inst k.0))
      (cond (nat_eq arc.place k.1) (option_map_or (pick arc.kind) o []) []) []
  by_value inst arc false o e =
      unwanted arc (is_eq (inst_cmp inst k.0)) (nat_eq arc.place k.1) o e
  by_value inst arc true None e =
      none_there (is_eq (inst_cmp inst k.0)) (nat_eq arc.place k.1)
  by_value inst arc true (Some v) e =
      at_place-one place_asked picked k (ask inst arc v)
      ∙ ap (λ t. cond t (pick arc.kind v) []) (at_both k inst arc.place)
      ∙ by_tests (is_eq (inst_cmp inst k.0)) (nat_eq arc.place k.1) (pick arc.kind v)

  by_arc : (env : Env) (inst : InstRef) (arc : NetArc) →
      here (arc_asks outputs env inst arc)
      ≡ cond (is_eq (inst_cmp inst k.0)) (asked_by_arc pick env k.1 arc) []
  by_arc env inst arc =
      by_value inst arc (is_wanted outputs arc.kind) (worth arc.inscription env) refl

  by_inst : (inst : Bool) (f : NetArc → List A) (arcs : List NetArc) →
      flat_map (λ arc. cond inst (f arc) []) arcs ≡ cond inst (flat_map f arcs) []
  by_inst true f arcs = refl
  by_inst false f arcs = flat_nothing A arcs

  abbrev reading : System → Node → Reading
  reading system node = record { node = node; env = env_of system node }

  by_node : (system : System) (node : Node) →
      here (node_asks outputs system node)
      ≡ asked_by_node pick system k.0 k.1 (reading system node)
  by_node system node =
      let env = env_of system node in
      let arcs = (transition_of system node).arcs in
      let inst = is_eq (inst_cmp node.inst k.0) in
      at_place-flat place_asked picked k (arc_asks outputs env node.inst) arcs
      ∙ (λ i. flat_map (λ arc. by_arc env node.inst arc i) arcs)
      ∙ by_inst inst (asked_by_arc pick env k.1) arcs

  pub asks_are : (system : System) (b : Binding) →
      here (binding_asks outputs system b) ≡ asked_at pick system (readings system b) k.0 k.1
  asks_are system b =
      at_place-flat place_asked picked k (node_asks outputs system) b.nodes
      ∙ (λ i. flat_map (λ node. by_node system node i) b.nodes)
      ∙ sym (flat_map-map (asked_by_node pick system k.0 k.1) (reading system) b.nodes)
