use Rattle.std.proofs.Common.{◌≡◌, map, take}
use Rattle.std.specs.List.{flat_map}
use Rattle.rn_model.specs.Systems.{transition_of}
use Rattle.rn_acts.proofs.creations.nets_made.Given as goal

abbrev pub invariant-loop-node : goal.invariant-loop-node
invariant-loop-node l =
    l.nets
    ≡ flat_map (λ node. map (λ c. c.net) (transition_of l.system node).creations)
    (take l.node-index l.nodes)
