use Rattle.std.proofs.Common.{◌≡◌, take}
use Rattle.std.specs.List.{flat_map}
use Rattle.rn_arcs.specs.link.Asks.{node_asks}
use Rattle.rn_arcs.proofs.collecting.asks_of.Given as goal

abbrev pub invariant-loop-node : goal.invariant-loop-node
invariant-loop-node l =
    l.asks.items ≡ flat_map (node_asks l.outputs l.system) (take l.node-index l.node-items)
