-- The rows that single arcs and nodes put, and what is printed and put so far.
use Rattle.std.specs.Prelude.{ℕ, List, [], ◌∷◌, ◌++◌, Option, option_map, flat_map}
use Rattle.std.specs.Option.{option_map_or}
use Rattle.rn_value.specs.declared.value.InstRef.{InstRef}
use Rattle.rn_value.specs.declared.value.InstRef.TheVariants.{Old, New}
use Rattle.rn_value.specs.declared.value.Value.{Value}
use Rattle.rn_model.specs.declared.system.System.{System}
use Rattle.rn_model.specs.declared.system.NetArc.{NetArc}
use Rattle.rn_model.specs.declared.binding.Node.{Node}
use Rattle.rn_model.specs.Demands.{puts}
use Rattle.rn_model.specs.Evaluation.{Env, worth}
use Rattle.rn_model.specs.Firing.{Acts, Effects, node_acts}
use Rattle.rn_model.specs.Systems.{transition_of}
use Rattle.rn_table.specs.declared.change.Row.{Row}
use Rattle.rn_acts.specs.declared.acts.Acted.{Acted}

-- these values as a row of a place, where there are some and the instance has a number
abbrev pub row_of : InstRef → ℕ → List Value → List Row
row_of (Old n) place [] = []
row_of (Old n) place (v ∷ vs) = record { inst = n; place = place; values = v ∷ vs } ∷ []
row_of (New path j) place vs = []

-- what an arc puts
abbrev pub arc_rows : Env → NetArc → List Row
arc_rows env arc =
    row_of env.this arc.place (option_map_or (puts arc.kind) (worth arc.inscription env) [])

-- what the arcs of a node put
abbrev pub node_rows : System → Node → Env → List Row
node_rows system node env = flat_map (arc_rows env) (transition_of system node).arcs

-- nothing was printed, and nothing put
abbrev pub nothing : Acted
nothing = record { outs = []; put = [] }

-- and what a node gives besides
abbrev pub with_acts : System → Node → Acted → Acts → Acted
with_acts system node acted acts = record {
  outs = acted.outs ++ acts.outs;
  put = acted.put ++ node_rows system node acts.env;
}

-- the same, where the node's actions and outputs have values
abbrev pub with_node : System → ℕ → Acted → Node → Option Acted
with_node system step acted node =
    option_map (with_acts system node acted) (node_acts system step node)

-- and what all nodes give besides
abbrev pub with_effects : System → Acted → Effects → Acted
with_effects system acted effects = record {
  outs = acted.outs ++ effects.outs;
  put = acted.put ++ flat_map (λ r. node_rows system r.node r.env) effects.read;
}
