-- What is wrong with a line, by what it names in a system. That an instance isn't made, or is of
-- another net than it is said to be, is no matter of this page.
use Rattle.std.specs.Prelude.{◌≡◌, Bool, not, ◌&&◌, List, ℕ, Option, Some, None, is_some, ⊤}
use Rattle.std.specs.Prelude.{Result, Ok, Err, if◌then◌else◌}
use Rattle.std.specs.List.{list_all}
use Rattle.rn_value.specs.Kinds.{value_has_kind}
use Rattle.rn_value.specs.declared.value.Kind.{Kind}
use Rattle.rn_model.specs.declared.system.System.{System}
use Rattle.rn_model.specs.declared.system.Net.{Net}
use Rattle.rn_model.specs.Systems.{net_at, place_kind_in}
use Rattle.rn_lines.specs.ValueText.{Said}
use Rattle.rn_lines.specs.NodeText.{Given, NodeSaid}
use Rattle.rn_lines.specs.LineText.{Token}
use Rattle.rn_lookup.specs.declared.refusal.Refusal.{Refusal}
use Rattle.rn_lookup.specs.declared.refusal.Refusal.TheVariants.{Form, Name, Step, Many, Memory}
use Rattle.rn_lookup.specs.Found.{transition_named, place_named, net_said, place_said}
use Rattle.rn_lookup.specs.Found.{vars_due, values_fit, variables_fit, name_nets, names_net}

-- What a call returns reports this fault, or none, unless memory ran out.
abbrev pub Tells : {X : Type 0} → Result X Refusal → Option Refusal → Type 0
Tells (Ok x) fault = fault ≡ None
Tells (Err Form) fault = fault ≡ Some Form
Tells (Err Name) fault = fault ≡ Some Name
Tells (Err Step) fault = fault ≡ Some Step
Tells (Err Many) fault = fault ≡ Some Many
Tells (Err (Memory _)) fault = ⊤

-- whether a node's net and transition are there
abbrev pub is_there : System → NodeSaid → Bool
is_there system n =
    names_net system n.inst
    && is_some (transition_named (net_at system (net_said system n.inst)) n.transition)

-- whether variables are those of the transition that is due, and values name nets that are there
abbrev pub has_names : System → Net → List Given → List ℕ → Bool
has_names system net given vars =
    variables_fit net given vars && list_all (λ g. name_nets system g.named) given

-- What is given in a node of a net has a value for each variable that is due, of its kind, which is
-- a matter of form. Its variables are those due, and its values name nets that are there.
abbrev pub given_fault : System → Net → List Given → List ℕ → Option Refusal
given_fault system net given vars =
    if not (values_fit net given vars) then Some Form
    else if not (has_names system net given vars) then Some Name
    else None

-- A node has to name a net and a transition of it. Only where they are known it is looked at what
-- is given in it.
abbrev pub node_fault : System → NodeSaid → Option Refusal
node_fault system n =
    if not (is_there system n) then Some Name
    else given_fault system (net_at system (net_said system n.inst)) n.given (vars_due system n)

-- A printed value has to name nets that are there. It may be of any kind.
abbrev pub token_fault : System → Token → Option Refusal
token_fault system t = if not (name_nets system t.named) then Some Name else None

-- whether the net and the place of a mark are there
abbrev pub has_place : System → Said → List ℕ → Bool
has_place system inst place =
    names_net system inst && is_some (place_named (net_at system (net_said system inst)) place)

-- Tokens of a place are of its kind, which is a matter of form, and name nets that are there.
abbrev pub tokens_fault : System → Kind → List Token → Option Refusal
tokens_fault system kind tokens =
    if not (list_all (λ t. value_has_kind t.value kind) tokens) then Some Form
    else if not (list_all (λ t. name_nets system t.named) tokens) then Some Name
    else None

-- A mark has to name a net and a place of it. Only where they are known its tokens are looked at.
abbrev pub mark_fault : System → Said → List ℕ → List Token → Option Refusal
mark_fault system inst place tokens =
    if not (has_place system inst place) then Some Name
    else tokens_fault system
    (place_kind_in (net_at system (net_said system inst)) (place_said system inst place)) tokens
