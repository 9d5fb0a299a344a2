use Rattle.std.proofs.Common.{ℕ, ◌<◌, get_or}
use Rattle.rn_model.specs.declared.binding.Node.{Node}
use Rattle.rn_agree.specs.link.Parts.{IsInRange}
use Rattle.rn_agree.proofs.shape.are_in_range.Given as goal

abbrev pub invariant-loop-node : goal.invariant-loop-node
invariant-loop-node l = (k : ℕ) (d : Node) → k < l.node-index →
    IsInRange l.system l.depth (get_or l.nodes k d)
