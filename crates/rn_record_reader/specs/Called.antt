-- What the lines of a binding say of instances, and which line is the first that is bad.
use Rattle.std.specs.Prelude.{ℕ, List, length, map, nat_lt, flat_map}
use Rattle.std.specs.Prelude.{Option, Some, None, if◌then◌else◌}
use Rattle.std.specs.List.{prefix_len}
use Rattle.rn_model.specs.declared.system.System.{System}
use Rattle.rn_model.specs.Systems.{transition_at}
use Rattle.rn_lookup.specs.declared.refusal.Refusal.{Refusal}
use Rattle.rn_lookup.specs.declared.refusal.Refusal.TheVariants.{Name, Step}
use Rattle.rn_lookup.specs.Found.{node_is_called}
use Rattle.rn_lines.specs.NodeText.{NodeSaid}
use Rattle.rn_record_reader.specs.Nodes.{Placed, Stop}

-- the nets of the instances that a node makes
abbrev pub nets_by : System → Placed → List ℕ
nets_by system x = map (λ c. c.net) (transition_at system x.net x.transition).creations

-- the nets of the instances that nodes make, in order
abbrev pub nets_made : System → List Placed → List ℕ
nets_made system = flat_map (nets_by system)

-- a bad line: how many lines of its entry are before it, and why it is refused
pub record BadAt : Type 0 where
  pub before : ℕ
  pub refusal : Refusal

-- how many nodes stand before the first that names an instance that isn't made, or is of another
-- net; all, where none does
abbrev pub count_of_called : System → List ℕ → List Placed → ℕ
count_of_called system made = prefix_len (λ x. node_is_called system made x.said)

-- why a line is refused that would stand there, but for its step
abbrev pub late_refusal : System → List ℕ → NodeSaid → Refusal
late_refusal system made n = if node_is_called system made n then Step else Name

-- what is wrong where the nodes end, after so many
abbrev pub stop_fault : System → List ℕ → ℕ → Stop → Option BadAt
stop_fault system made count (Stop.whole lines) = None
stop_fault system made count (Stop.late n) =
    Some (record { before = count; refusal = late_refusal system made n })
stop_fault system made count (Stop.refused refusal) =
    Some (record { before = count; refusal = refusal })

-- The first line of a binding that is bad, where these instances were made, its own among them:
-- those of its nodes before the first line that is bad for another reason than an instance that
-- isn't made or has another net. Each line before that one is bad where it names such an instance.
abbrev pub nodes_fault : System → List ℕ → List Placed × Stop → Option BadAt
nodes_fault system made read =
    if nat_lt (count_of_called system made read.0) (length read.0)
    then Some (record { before = count_of_called system made read.0; refusal = Name })
    else stop_fault system made (length read.0) read.1
