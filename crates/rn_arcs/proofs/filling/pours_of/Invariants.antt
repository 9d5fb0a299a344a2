use Rattle.std.proofs.Common.{◌≡◌, take}
use Rattle.std.specs.List.{flat_map}
use Rattle.rn_arcs.specs.link.Fillings.{node_pours}
use Rattle.rn_arcs.proofs.filling.pours_of.Given as goal

abbrev pub invariant-loop-node : goal.invariant-loop-node
invariant-loop-node l =
    l.pours.items ≡ flat_map (node_pours l.system) (take l.node-index l.node-items)
