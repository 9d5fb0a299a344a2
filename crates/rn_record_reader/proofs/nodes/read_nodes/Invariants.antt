-- The nodes so far, and those of the lines that are left, are all.
use Rattle.std.proofs.Common.{◌≡◌, length, map}
use Rattle.rn_record_reader.specs.Lines.{lines_in}
use Rattle.rn_record_reader.specs.Nodes.{nodes_from, binding_lines}
use Rattle.rn_record_reader.specs.link.NodesAhead.{placed, with_nodes}
use Rattle.rn_record_reader.specs.link.DueAhead.{due_paths}
use Rattle.rn_record_reader.proofs.nodes.read_nodes.Given as goal

abbrev pub invariant-loop-alloc : goal.invariant-loop-alloc
invariant-loop-alloc l =
    with_nodes (map placed l.nodes.items)
    (nodes_from l.system l.role (due_paths l.due) (lines_in l.rest))
    ≡ binding_lines l.system l.role (lines_in l.bytes)

abbrev pub decreases-loop-alloc : goal.decreases-loop-alloc
decreases-loop-alloc l = length l.rest
