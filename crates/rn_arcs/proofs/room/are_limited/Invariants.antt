use Rattle.std.proofs.Common.{◌≡◌, drop}
use Rattle.std.specs.List.{list_any}
use Rattle.rn_arcs.specs.link.Room.{node_is_limited}
use Rattle.rn_arcs.proofs.room.are_limited.Given as goal

abbrev pub invariant-loop-node : goal.invariant-loop-node
invariant-loop-node l =
    list_any (node_is_limited l.system) (drop l.node-index l.nodes)
    ≡ list_any (node_is_limited l.system) l.nodes
