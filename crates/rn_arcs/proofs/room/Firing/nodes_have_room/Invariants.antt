use Rattle.std.proofs.Common.{ℕ, ◌<◌, get_or}
use Rattle.rn_model.specs.declared.binding.Node.{Node}
use Rattle.rn_arcs.specs.link.Room.{NodeHasRoom}
use Rattle.rn_arcs.proofs.room.Firing.nodes_have_room.Given as goal

abbrev pub invariant-loop-node : goal.invariant-loop-node
invariant-loop-node l =
    (k : ℕ) (d : Node) → k < l.node-index → NodeHasRoom l.self (get_or l.nodes k d)
