use Rattle.std.proofs.Common.{◌≡◌, drop}
use Rattle.std.specs.List.{list_any}
use Rattle.rn_finder.specs.Starting.{overfills}
use Rattle.rn_finder.proofs.capacities.lacks_room.Given as goal

-- none of the arcs so far overfills its place
abbrev pub invariant-loop-arc : goal.invariant-loop-arc
invariant-loop-arc l =
    list_any (overfills l.system l.inst l.transition) (drop l.arc-index l.arc-items)
    ≡ list_any (overfills l.system l.inst l.transition) l.arc-items
