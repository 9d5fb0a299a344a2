-- How the nodes of a binding are written, one a line.
use Rattle.std.specs.Prelude.{ℕ, List, [], ◌∷◌, ◌++◌, length, IsTrue, All, codes, slice_get, flat_map}
use Rattle.std.specs.Option.{option_map_or}
use Rattle.rn_value.specs.declared.value.InstRef.{InstRef}
use Rattle.rn_value.specs.declared.value.InstRef.TheVariants.{Old, New}
use Rattle.rn_value.specs.declared.value.Value.{Value}
use Rattle.rn_value.specs.Names.{inst_within, AreNamed}
use Rattle.rn_value.specs.Text.{numeral, value_text}
use Rattle.rn_model.specs.declared.system.System.{System}
use Rattle.rn_model.specs.declared.system.Net.{Net}
use Rattle.rn_model.specs.declared.binding.Node.{Node}
use Rattle.rn_model.specs.Systems.{net_at, transition_of}
use Rattle.rn_model.specs.Bindings.{IsNodeOf}

-- The number of an instance that exists. One that is still to be made has none.
abbrev pub number_text : InstRef → List ℕ
number_text (Old n) = numeral n
number_text (New path j) = []

-- an instance, by the name of its net and its number, as `main[1]`
abbrev pub instance_text : List ℕ → InstRef → List ℕ
instance_text net inst = net ++ codes "[" ++ number_text inst ++ codes "]"

-- the name of a variable of a net
abbrev pub var_name : Net → ℕ → List ℕ
var_name net x = option_map_or (λ var. var.name) (slice_get net.vars x) []

-- a variable with its value, as ` x=5`
abbrev pub given_text : List (List ℕ) → Net → ℕ → Value → List ℕ
given_text names net x v = codes " " ++ var_name net x ++ codes "=" ++ value_text v names

-- variables with their values, as ` x=5 y={}`
abbrev pub all_given_text : List (List ℕ) → Net → List ℕ → List Value → List ℕ
all_given_text names net [] vs = []
all_given_text names net (x ∷ xs) [] = []
all_given_text names net (x ∷ xs) (v ∷ vs) =
    given_text names net x v ++ all_given_text names net xs vs

-- A node: its instance, its transition, and the transition's variables with their values, as
-- `main[1].t x=5`.
abbrev pub node_text : System → List (List ℕ) → Node → List ℕ
node_text system names node =
    instance_text (net_at system node.net).name node.inst ++ codes "."
    ++ (transition_of system node).name
    ++ all_given_text names (net_at system node.net) (transition_of system node).vars node.values

-- a line of a node, after this lead
abbrev pub node_line : System → List (List ℕ) → List ℕ → Node → List ℕ
node_line system names lead node = lead ++ node_text system names node ++ codes "\n"

-- The lines of nodes, each after the lead. All but the first have `+ ` after it.
abbrev pub node_lines : System → List (List ℕ) → List ℕ → List Node → List ℕ
node_lines system names lead [] = []
node_lines system names lead (node ∷ nodes) =
    node_line system names lead node
    ++ flat_map (node_line system names (lead ++ codes "+ ")) nodes

-- A node can be written: its net and transition are in the system, with one value for each
-- variable, and each of its instances exists and has a name.
pub record IsWritable (system : System) (names : List (List ℕ)) (node : Node) : Type 0 where
  pub occurs : IsNodeOf system node
  pub exists : IsTrue (inst_within node.inst (length names))
  pub named : All (AreNamed names) node.values
