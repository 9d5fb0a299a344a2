use Rattle.std.proofs.Common.{ℕ, ◌<◌, get_or}
use Rattle.rn_model.specs.declared.binding.Node.{Node}
use Rattle.rn_agree.specs.link.Parts.{IsLinked}
use Rattle.rn_agree.proofs.shape.are_linked.Given as goal

abbrev pub invariant-loop-node : goal.invariant-loop-node
invariant-loop-node l = (k : ℕ) (d : Node) → k < l.node-index →
    IsLinked l.system l.binding (get_or l.binding.nodes k d)
