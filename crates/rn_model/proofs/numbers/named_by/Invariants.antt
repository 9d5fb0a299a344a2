use Rattle.std.proofs.Common.{◌≡◌, take, map}
use Rattle.rn_model.specs.Firing.{renamed_node}
use Rattle.rn_model.specs.Numbers.{numbered_by}
use Rattle.rn_model.proofs.numbers.named_by.Given as goal

abbrev pub invariant-loop-node : goal.invariant-loop-node
invariant-loop-node l = l.nodes.items ≡ map (renamed_node (numbered_by l.numbers)) (take l.node-index l.node-items)
