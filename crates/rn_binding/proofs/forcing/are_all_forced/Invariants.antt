-- The nodes so far.
use Rattle.std.proofs.Common.{ℕ, ◌<◌, get_or}
use Rattle.rn_model.specs.declared.binding.Node.{Node}
use Rattle.rn_binding.specs.link.Passing.{AreVarsForced}
use Rattle.rn_binding.proofs.forcing.are_all_forced.Given as goal

abbrev pub invariant-loop-node : goal.invariant-loop-node
invariant-loop-node l = (k : ℕ) (d : Node) → k < l.node-index →
    AreVarsForced l.system l.growing (get_or l.nodes k d)
