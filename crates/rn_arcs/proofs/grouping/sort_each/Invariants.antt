use Rattle.std.proofs.Common.{◌≡◌, ◌++◌, map, take, drop}
use Rattle.rn_arcs.specs.link.Groups.{in_order}
use Rattle.rn_arcs.proofs.grouping.sort_each.Given as goal

abbrev pub invariant-loop-k : goal.invariant-loop-k
invariant-loop-k l =
    l.places.items ≡ map in_order (take l.k l.fn.places.items) ++ drop l.k l.fn.places.items
