use Rattle.std.proofs.Common.{◌≡◌, ◌++◌, take}
use Rattle.std.specs.List.{flat_map}
use Rattle.rn_model.specs.Bindings.{env_of}
use Rattle.rn_arcs.specs.link.Fillings.{arc_pours}
use Rattle.rn_arcs.proofs.filling.add_node.Given as goal

abbrev pub invariant-loop-arc : goal.invariant-loop-arc
invariant-loop-arc l =
    l.pours.items
    ≡ l.initial.pours.items
    ++ flat_map (arc_pours l.transition (env_of l.system l.node) l.node.inst)
    (take l.arc-index l.arc-items)
