-- What the code knows of the nodes that come next. It connects the code with the definitions, and
-- states no rule.
use Rattle.std.specs.Prelude.{◌≡◌, ◌<◌, ℕ, List, [], ◌∷◌, ◌++◌, Option, length, ⊤}
use Rattle.rn_model.specs.declared.system.System.{System}
use Rattle.rn_lines.specs.link.NodeSeen.{node}
use Rattle.rn_lookup.specs.Found.{net_said, transition_said}
use Rattle.rn_lines.specs.LineText.{LineSaid}
use Rattle.rn_record_reader.specs.Nodes.{Judged, Placed, Stop}
use Rattle.rn_record_reader.specs.Nodes.{nodes_from, with_node, placed_at, count_called}
use Rattle.rn_record_reader.specs.Paths.{children}
use Rattle.rn_record_reader.specs.declared.role.Role.{Role}
use Rattle.rn_record_reader.specs.declared.nodes.PlacedNode.{PlacedNode}
use Rattle.rn_record_reader.specs.declared.nodes.NodesEnd.{NodesEnd}
use Rattle.rn_record_reader.specs.declared.nodes.NodesEnd.TheVariants as Ends
use Rattle.rn_record_reader.specs.Lines.{lines_in}
use Rattle.rn_record_reader.specs.declared.judging.NodeLine.{NodeLine}
use Rattle.rn_record_reader.specs.declared.judging.NodeLine.TheVariants.{Stands, Late, Refused}

-- what the code says of a line is what the line is
abbrev pub Judges : System → NodeLine → Judged → Type 0
Judges system (Stands found n) judged =
    (judged ≡ Judged.stands (node n))
    × (found.net ≡ net_said system (node n).inst)
    × (found.transition ≡ transition_said system (node n))
Judges system (Late n) judged = judged ≡ Judged.late (node n)
Judges system (Refused refusal) judged = judged ≡ Judged.refused refusal

-- What is read of these lines, where a node at the path and those paths are due after it, by what
-- the code says of the first line. The other lines are left where it stands.
abbrev pub ReadsNode : System → Role → List ℕ → List (List ℕ) → List (Option LineSaid) → NodeLine →
    List (Option LineSaid) → Type 0
ReadsNode system role path due lines (Stands found n) rest =
    (nodes_from system role (path ∷ due) lines
    ≡ with_node (placed_at system path (node n))
    (nodes_from system role (children path (count_called system (node n)) ++ due) rest))
    × (found.net ≡ net_said system (node n).inst)
    × (found.transition ≡ transition_said system (node n))
ReadsNode system role path due lines (Late n) rest =
    nodes_from system role (path ∷ due) lines ≡ ([], Stop.late (node n))
ReadsNode system role path due lines (Refused refusal) rest =
    nodes_from system role (path ∷ due) lines ≡ ([], Stop.refused refusal)

-- fewer bytes are left where a node stands
abbrev pub LeavesLess : NodeLine → List ℕ → List ℕ → Type 0
LeavesLess (Stands found n) rest bytes = length rest < length bytes
LeavesLess (Late n) rest bytes = ⊤
LeavesLess (Refused refusal) rest bytes = ⊤

-- a node at its place
abbrev pub placed : PlacedNode → Placed
placed x = record {
  path = x.path;
  net = x.found.net;
  transition = x.found.transition;
  said = node x.node;
}

-- why no more nodes are read
abbrev pub stop : NodesEnd → Stop
stop (Ends.Whole rest) = Stop.whole (lines_in rest.now)
stop (Ends.Late n) = Stop.late (node n)
stop (Ends.Refused refusal) = Stop.refused refusal

-- nodes, with some before them
abbrev pub with_nodes : List Placed → List Placed × Stop → List Placed × Stop
with_nodes xs read = (xs ++ read.0, read.1)
