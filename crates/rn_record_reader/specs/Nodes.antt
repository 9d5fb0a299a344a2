-- The nodes of a binding, line by line.
use Rattle.std.specs.Prelude.{ℕ, Bool, true, false, List, [], ◌∷◌, ◌++◌, length}
use Rattle.std.specs.Prelude.{Option, Some, None, nat_eq, bytes_eq, if◌then◌else◌}
use Rattle.rn_value.specs.Text.{numeral}
use Rattle.rn_model.specs.declared.system.System.{System}
use Rattle.rn_model.specs.Systems.{transition_at}
use Rattle.rn_lines.specs.NodeText.{NodeSaid}
use Rattle.rn_lines.specs.LineText.{LeadSaid, LineSaid}
use Rattle.rn_lookup.specs.declared.refusal.Refusal.{Refusal}
use Rattle.rn_lookup.specs.declared.refusal.Refusal.TheVariants.{Form}
use Rattle.rn_lookup.specs.Found.{net_said, transition_said}
use Rattle.rn_lookup.specs.Faults.{node_fault}
use Rattle.rn_record_reader.specs.Paths.{is_root, children}
use Rattle.rn_record_reader.specs.declared.role.Role.{Role}
use Rattle.rn_record_reader.specs.declared.role.Role.TheVariants.{Firing, Fault}

-- whether digits are the numeral of a step
abbrev pub is_step : ℕ → List ℕ → Bool
is_step step digits = bytes_eq digits (numeral step)

-- the node of a line of a firing, where the line has the firing's worker; and whether it has the
-- firing's step
abbrev pub own_node : ℕ → ℕ → LeadSaid → NodeSaid → Option (NodeSaid × Bool)
own_node step worker lead n =
    if nat_eq lead.worker worker then Some (n, is_step step lead.step) else None

-- The node of a line that stands where a node is due, the first one of an entry or a further one;
-- and whether the line has the right step. A firing that is undefined has no step.
abbrev pub node_due : Role → Bool → LineSaid → Option (NodeSaid × Bool)
node_due (Firing step worker) true (LineSaid.fires lead n) = own_node step worker lead n
node_due (Firing step worker) false (LineSaid.calls lead n) = own_node step worker lead n
node_due Fault true (LineSaid.would_fire n) = Some (n, true)
node_due Fault false (LineSaid.would_call n) = Some (n, true)
node_due _ _ _ = None

-- What a line is where a node is due: a node that stands there, one that would but for its step, or
-- refused for another reason. That it names an instance that isn't made, or of another net, is no
-- matter here.
pub data Judged : Type 0 where
  stands late : NodeSaid → Judged
  refused : Refusal → Judged

-- a node by what is wrong with it, and by whether its step is right
abbrev pub judged_by : NodeSaid → Bool → Option Refusal → Judged
judged_by n right (Some refusal) = Judged.refused refusal
judged_by n true None = Judged.stands n
judged_by n false None = Judged.late n

-- a node that is due, if the line has one
abbrev pub judged_node : System → Option (NodeSaid × Bool) → Judged
judged_node system None = Judged.refused Form
judged_node system (Some x) = judged_by x.0 x.1 (node_fault system x.0)

-- a line where a node is due
abbrev pub judged : System → Role → Bool → Option LineSaid → Judged
judged system role first None = Judged.refused Form
judged system role first (Some line) = judged_node system (node_due role first line)

-- a node at its place in a binding, with the numbers of its net and transition
pub record Placed : Type 0 where
  pub path : List ℕ
  pub net : ℕ
  pub transition : ℕ
  pub said : NodeSaid

-- a node at a place
abbrev pub placed_at : System → List ℕ → NodeSaid → Placed
placed_at system path n = record {
  path = path;
  net = net_said system n.inst;
  transition = transition_said system n;
  said = n;
}

-- how many nodes a node calls
abbrev pub count_called : System → NodeSaid → ℕ
count_called system n =
    length (transition_at system (net_said system n.inst) (transition_said system n)).downlinks

-- why no more nodes are read: no more are due, and these lines are left; or the next line isn't one
-- that stands there
pub data Stop : Type 0 where
  whole : List (Option LineSaid) → Stop
  late : NodeSaid → Stop
  refused : Refusal → Stop

-- nodes, with one before them
abbrev pub with_node : Placed → List Placed × Stop → List Placed × Stop
with_node x read = (x ∷ read.0, read.1)

-- what is read where this stands at a path, and where that is read after it
abbrev pub node_then : System → List ℕ → Judged → (NodeSaid → List Placed × Stop) →
    List Placed × Stop
node_then system path (Judged.stands n) more = with_node (placed_at system path n) (more n)
node_then system path (Judged.late n) more = ([], Stop.late n)
node_then system path (Judged.refused refusal) more = ([], Stop.refused refusal)

-- The nodes that stand at the start of lines, where nodes at these paths are due, and why no more
-- are read. Each node is followed by those that it calls, each with its own.
abbrev pub nodes_from : System → Role → List (List ℕ) → List (Option LineSaid) →
    List Placed × Stop
nodes_from system role [] lines = ([], Stop.whole lines)
nodes_from system role (path ∷ due) [] = ([], Stop.refused Form)
nodes_from system role (path ∷ due) (line ∷ lines) =
    node_then system path (judged system role (is_root path) line)
    (λ n. nodes_from system role (children path (count_called system n) ++ due) lines)

-- the nodes of a binding
abbrev pub binding_lines : System → Role → List (Option LineSaid) → List Placed × Stop
binding_lines system role = nodes_from system role ([] ∷ [])
