-- What single arcs ask. This only connects the code to the demands of bindings.
use Rattle.std.specs.Prelude.{Bool, not, ◌||◌, List, [], ◌∷◌, if◌then◌else◌}
use Rattle.std.specs.List.{flat_map}
use Rattle.std.specs.Option.{option_map_or}
use Rattle.rn_value.specs.declared.value.InstRef.{InstRef}
use Rattle.rn_model.specs.declared.system.System.{System}
use Rattle.rn_model.specs.declared.system.ArcKind.{ArcKind}
use Rattle.rn_model.specs.declared.system.NetArc.{NetArc}
use Rattle.rn_model.specs.declared.binding.Node.{Node}
use Rattle.rn_model.specs.declared.binding.Binding.{Binding}
use Rattle.rn_model.specs.Bindings.{env_of}
use Rattle.rn_model.specs.Evaluation.{Env, worth}
use Rattle.rn_model.specs.Systems.{is_output, transition_of}
use Rattle.rn_arcs.specs.Places.{InstPlace}
use Rattle.rn_arcs.specs.declared.ask.Ask.{Ask}

-- the place of which an arc asks
abbrev pub place_asked : Ask → InstPlace
place_asked a = (a.inst, a.place)

-- whether an arc of this kind is looked at
abbrev pub is_wanted : Bool → ArcKind → Bool
is_wanted outputs kind = outputs || not (is_output kind)

-- what an arc asks, where its inscription has a value
abbrev pub arc_asks : Bool → Env → InstRef → NetArc → List Ask
arc_asks outputs env inst arc =
    if is_wanted outputs arc.kind
    then option_map_or
    (λ v. (record { inst = inst; place = arc.place; kind = arc.kind; value = v }) ∷ [])
    (worth arc.inscription env) []
    else []

-- what the arcs of a node ask
abbrev pub node_asks : Bool → System → Node → List Ask
node_asks outputs system node =
    flat_map (arc_asks outputs (env_of system node) node.inst) (transition_of system node).arcs

-- what the arcs of all nodes ask
abbrev pub binding_asks : Bool → System → Binding → List Ask
binding_asks outputs system b = flat_map (node_asks outputs system) b.nodes
