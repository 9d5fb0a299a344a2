use Rattle.std.proofs.Common.{◌≡◌, ◌++◌, take}
use Rattle.std.specs.Prelude.{flat_map}
use Rattle.rn_model.specs.NodeText.{node_line}
use Rattle.rn_model.proofs.node_text.put_lines.Given as goal

abbrev pub invariant-loop-node : goal.invariant-loop-node
invariant-loop-node l = l.out.items ≡ l.initial.out.items ++ flat_map (node_line l.system l.names l.lead) (take l.node-index l.nodes)
