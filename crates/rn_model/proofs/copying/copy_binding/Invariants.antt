use Rattle.std.proofs.Common.{◌≡◌, take}
use Rattle.rn_model.proofs.copying.copy_binding.Given as goal

abbrev pub invariant-loop-node : goal.invariant-loop-node
invariant-loop-node l = l.nodes.items ≡ take l.node-index l.node-items
