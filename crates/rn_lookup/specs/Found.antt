-- What the names of a line stand for in a system.
use Rattle.std.specs.Prelude.{ℕ, ◌+◌, ◌-◌, Bool, true, false, ◌&&◌, List, [], ◌∷◌, map, bytes_eq, nat_eq}
use Rattle.std.specs.Prelude.{Option, Some, None, is_some, unwrap_or, slice_get, if◌then◌else◌}
use Rattle.std.specs.List.{list_all}
use Rattle.std.specs.Option.{option_map_or}
use Rattle.rn_value.specs.declared.value.Value.{Value}
use Rattle.rn_value.specs.Kinds.{value_has_kind}
use Rattle.rn_model.specs.declared.system.System.{System}
use Rattle.rn_model.specs.declared.system.Net.{Net}
use Rattle.rn_model.specs.Systems.{net_at, transition_at}
use Rattle.rn_lines.specs.ValueText.{Said}
use Rattle.rn_lines.specs.NodeText.{Given, NodeSaid}
use Rattle.rn_lines.specs.LineText.{Token, Held}

-- the number of the first of these that has the name, where the first of all has this number
abbrev pub number_from : {X : Type 0} → (X → List ℕ) → ℕ → List X → List ℕ → Option ℕ
number_from name n [] word = None
number_from name n (x ∷ xs) word =
    if bytes_eq (name x) word then Some n else number_from name (n + 1) xs word

-- the number of the net with this name
abbrev pub net_named : System → List ℕ → Option ℕ
net_named system = number_from (λ net. net.name) 0 system.nets

-- the number of the transition of a net with this name
abbrev pub transition_named : Net → List ℕ → Option ℕ
transition_named net = number_from (λ t. t.name) 0 net.transitions

-- the number of the place of a net with this name
abbrev pub place_named : Net → List ℕ → Option ℕ
place_named net = number_from (λ place. place.name) 0 net.places

-- whether an instance is said to be of a net that is there
abbrev pub names_net : System → Said → Bool
names_net system m = is_some (net_named system m.name)

-- whether all of these are
abbrev pub name_nets : System → List Said → Bool
name_nets system = list_all (names_net system)

-- the net of which an instance is said to be
abbrev pub net_said : System → Said → ℕ
net_said system inst = unwrap_or (net_named system inst.name) 0

-- the transition of a node, by its number in the net of the node's instance
abbrev pub transition_said : System → NodeSaid → ℕ
transition_said system n =
    unwrap_or (transition_named (net_at system (net_said system n.inst)) n.transition) 0

-- the place of a mark, by its number in the net of the mark's instance
abbrev pub place_said : System → Said → List ℕ → ℕ
place_said system inst place =
    unwrap_or (place_named (net_at system (net_said system inst)) place) 0

-- the variables that are due in a node
abbrev pub vars_due : System → NodeSaid → List ℕ
vars_due system n = (transition_at system (net_said system n.inst) (transition_said system n)).vars

-- whether a value has the kind of a variable of a net
abbrev pub fits_var : Net → ℕ → Value → Bool
fits_var net x v = option_map_or (λ var. value_has_kind v var.kind) (slice_get net.vars x) false

-- whether a variable of a net has this name
abbrev pub is_var : Net → ℕ → List ℕ → Bool
is_var net x word = option_map_or (λ var. bytes_eq var.name word) (slice_get net.vars x) false

-- whether as many values are given as variables are due, each of its variable's kind
abbrev pub values_fit : Net → List Given → List ℕ → Bool
values_fit net [] [] = true
values_fit net (g ∷ given) (x ∷ xs) = fits_var net x g.value && values_fit net given xs
values_fit net _ _ = false

-- whether each value is given to the variable that is due, as far as both go
abbrev pub variables_fit : Net → List Given → List ℕ → Bool
variables_fit net (g ∷ given) (x ∷ xs) = is_var net x g.variable && variables_fit net given xs
variables_fit net _ _ = true

-- the number that stands beside an instance: `made` has the nets of the instances, from number 1
abbrev pub net_of_made : List ℕ → ℕ → Option ℕ
net_of_made made number = if nat_eq number 0 then None else slice_get made (number - 1)

-- whether an instance is among those made, and is called by the name of its net
abbrev pub is_called : System → List ℕ → Said → Bool
is_called system made m =
    option_map_or (λ net. bytes_eq (net_at system net).name m.name)
    (net_of_made made m.number) false

-- whether each of these is
abbrev pub are_called : System → List ℕ → List Said → Bool
are_called system made = list_all (is_called system made)

-- whether each instance that a node names is: its own, and those of its values
abbrev pub node_is_called : System → List ℕ → NodeSaid → Bool
node_is_called system made n =
    is_called system made n.inst && list_all (λ g. are_called system made g.named) n.given

-- the values of a mark, without their counts
abbrev pub tokens_held : List Held → List Token
tokens_held = map (λ h. h.token)

-- whether each instance that tokens name is
abbrev pub tokens_are_called : System → List ℕ → List Token → Bool
tokens_are_called system made = list_all (λ t. are_called system made t.named)
