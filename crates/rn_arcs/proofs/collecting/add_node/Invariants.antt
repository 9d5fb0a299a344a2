use Rattle.std.proofs.Common.{◌≡◌, ◌++◌, take}
use Rattle.std.specs.List.{flat_map}
use Rattle.rn_model.specs.Bindings.{env_of}
use Rattle.rn_arcs.specs.link.Asks.{arc_asks}
use Rattle.rn_arcs.proofs.collecting.add_node.Given as goal

abbrev pub invariant-loop-arc : goal.invariant-loop-arc
invariant-loop-arc l =
    l.asks.items
    ≡ l.initial.asks.items
    ++ flat_map (arc_asks l.outputs (env_of l.system l.node) l.node.inst)
    (take l.arc-index l.arc-items)
