use Rattle.std.proofs.Common.{◌≡◌, take}
use Rattle.rn_growing.specs.link.Building.{parts_at, BuildsAll}
use Rattle.rn_growing.specs.Decisions.{site_of}
use Rattle.rn_growing.specs.link.Laid.{Grows}
use Rattle.rn_growing.proofs.building.+building.Given as goal

abbrev pub invariant-build_parts-loop-i : goal.invariant-build_parts-loop-i
invariant-build_parts-loop-i l =
    BuildsAll l.initial.laid
    (λ a. parts_at a l.head (site_of l.site) l.initial.way.items 0 (take l.i l.exprs)) l.laid
    l.ids.items
    × Grows l.initial.laid l.laid × (l.way.items ≡ l.initial.way.items)
