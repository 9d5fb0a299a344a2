use Rattle.rn_lines.specs.NodeReading.{node_at}
use Rattle.rn_lines.specs.link.NodeSeen.{node}
use Rattle.rn_lines.specs.NodeText.{IsNode}
use Rattle.rn_lines.proofs.Beginnings.{what_is_found, what_is_there}
use Rattle.rn_lines.proofs.NodeReadings.{node_reads, node_read}
use Rattle.rn_lines.proofs.nodes.read_node.Goals as goal

pub returns : goal.returns
returns c =
    let bytes = c.args.bytes.now in
    record {
      found = what_is_found node c.node_at.result (node_at bytes) (λ x. IsNode x bytes) c.node_at.ensures (node_read bytes);
      only = λ x is. what_is_there node c.node_at.result (node_at bytes) x c.node_at.ensures (node_reads is);
    }
