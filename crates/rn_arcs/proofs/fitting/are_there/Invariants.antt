use Rattle.std.proofs.Common.{◌≡◌, ℕ, ◌<◌, get_or}
use Rattle.std.specs.Prelude.{Some}
use Rattle.rn_value.specs.declared.value.InstRef.TheVariants.{Old}
use Rattle.rn_model.specs.declared.binding.Node.{Node}
use Rattle.rn_model.specs.Markings.{net_of}
use Rattle.rn_arcs.proofs.fitting.are_there.Given as goal

abbrev pub invariant-loop-node : goal.invariant-loop-node
invariant-loop-node l =
    (k : ℕ) (d : Node) → k < l.node-index → (n : ℕ) → (get_or l.nodes k d).inst ≡ Old n →
    net_of l.table.marking n ≡ Some (get_or l.nodes k d).net
