use Rattle.std.proofs.Common.{ℕ, ◌<◌, get_or}
use Rattle.rn_model.specs.declared.binding.Node.{Node}
use Rattle.rn_agree.specs.link.Agreeing.{NodeHolds}
use Rattle.rn_agree.proofs.agreement.nodes_hold.Given as goal

abbrev pub invariant-loop-node : goal.invariant-loop-node
invariant-loop-node l = (k : ℕ) (d : Node) → k < l.node-index →
    NodeHolds l.system (get_or l.binding.nodes k d)
