use Rattle.std.proofs.Common.{◌≡◌, drop}
use Rattle.std.specs.List.{list_any}
use Rattle.rn_arcs.specs.link.Room.{net_is_limited}
use Rattle.rn_arcs.proofs.room.node_is_limited.Given as goal

abbrev pub invariant-loop-creation : goal.invariant-loop-creation
invariant-loop-creation l =
    list_any (λ c. net_is_limited l.system c.net) (drop l.creation-index l.creation-items)
    ≡ list_any (λ c. net_is_limited l.system c.net) l.creation-items
