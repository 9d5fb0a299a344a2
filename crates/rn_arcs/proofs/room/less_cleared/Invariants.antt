use Rattle.std.proofs.Common.{◌≡◌, ◌-◌, take, length}
use Rattle.std.specs.List.{flat_map}
use Rattle.rn_arcs.proofs.room.less_cleared.Given as goal

abbrev pub invariant-loop-list : goal.invariant-loop-list
invariant-loop-list l =
    l.left ≡ l.held - length (flat_map (λ vs. vs) (take l.list-index l.lists))
