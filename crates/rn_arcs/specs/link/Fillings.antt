-- How many tokens single arcs put. This only connects the code to the demands of bindings.
use Rattle.std.specs.Prelude.{ℕ, zero, suc, ◌+◌, Bool, true, false, List, [], ◌∷◌, ◌++◌, length}
use Rattle.std.specs.Prelude.{fold, if◌then◌else◌}
use Rattle.std.specs.List.{flat_map}
use Rattle.std.specs.Option.{option_map_or}
use Rattle.rn_value.specs.declared.value.InstRef.{InstRef}
use Rattle.rn_model.specs.declared.system.System.{System}
use Rattle.rn_model.specs.declared.system.Transition.{Transition}
use Rattle.rn_model.specs.declared.system.ArcKind.{ArcKind}
use Rattle.rn_model.specs.declared.system.ArcKind.TheVariants.{Output, Reserve, FlexOutput}
use Rattle.rn_model.specs.declared.system.NetArc.{NetArc}
use Rattle.rn_model.specs.declared.binding.Node.{Node}
use Rattle.rn_model.specs.declared.binding.Binding.{Binding}
use Rattle.rn_model.specs.Bindings.{env_of}
use Rattle.rn_model.specs.Demands.{puts}
use Rattle.rn_model.specs.Evaluation.{Env, worth}
use Rattle.rn_model.specs.Systems.{transition_of, puts_awaited}
use Rattle.rn_arcs.specs.Demanded.{fill_place}
use Rattle.rn_arcs.specs.link.Joining.{with_item}
use Rattle.rn_arcs.specs.Places.{InstPlace}
use Rattle.rn_arcs.specs.declared.demands.Fill.{Fill}
use Rattle.rn_arcs.specs.declared.filling.Pour.{Pour}

-- whether an arc of this kind puts something
abbrev pub may_put : ArcKind → Bool
may_put Output = true
may_put Reserve = true
may_put FlexOutput = true
may_put _ = false

-- how many tokens an arc puts by the value of its inscription
abbrev pub known_count : Env → NetArc → ℕ
known_count env arc = length (option_map_or (puts arc.kind) (worth arc.inscription env) [])

-- how many tokens an arc puts whose value an action gives
abbrev pub awaited_count : Transition → NetArc → ℕ
awaited_count t arc = if puts_awaited t arc then 1 else 0

-- so many tokens at a place, and nothing where there are none
abbrev pub pours_of : InstRef → ℕ → ℕ → List Pour
pours_of inst place zero = []
pours_of inst place (suc n) = (record { inst = inst; place = place; count = suc n }) ∷ []

-- what an arc puts
abbrev pub arc_pours : Transition → Env → InstRef → NetArc → List Pour
arc_pours t env inst arc =
    pours_of inst arc.place (awaited_count t arc) ++ pours_of inst arc.place (known_count env arc)

-- what the arcs of a node put
abbrev pub node_pours : System → Node → List Pour
node_pours system node =
    flat_map (arc_pours (transition_of system node) (env_of system node) node.inst)
    (transition_of system node).arcs

-- what the arcs of all nodes put
abbrev pub binding_pours : System → Binding → List Pour
binding_pours system b = flat_map (node_pours system) b.nodes

-- the place at which an arc puts
abbrev pub pour_place : Pour → InstPlace
pour_place p = (p.inst, p.place)

-- the row that one arc begins
abbrev pub fill_of : Pour → Fill
fill_of p = record { inst = p.inst; place = p.place; count = p.count }

-- the row of a place with what one more arc puts
abbrev pub joined_pour : Pour → Fill → Fill
joined_pour p f = record f { count = f.count + p.count }

-- What an arc puts joins the last row where that is of its own place, and else stands after it.
abbrev pub with_pour : List Fill → Pour → List Fill
with_pour = with_item fill_place pour_place fill_of joined_pour

-- the rows of all that these put
abbrev pub fills_of : List Pour → List Fill
fills_of = fold with_pour []
