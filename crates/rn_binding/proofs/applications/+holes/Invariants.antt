-- The parts so far.
use Rattle.std.proofs.Common.{◌≡◌, ◌++◌, map, drop}
use Rattle.rn_model.specs.Derivation.{holes_of_parts}
use Rattle.rn_growing.specs.Decisions.{site_of}
use Rattle.rn_binding.specs.link.Applications.{application_of, with_holes, hole_within}
use Rattle.rn_binding.proofs.applications.+holes.Given as goal

abbrev pub invariant-put_holes_of-loop-i : goal.invariant-put_holes_of-loop-i
invariant-put_holes_of-loop-i l =
    (l.way.items ≡ l.initial.way.items)
    × (map application_of l.found.items
    ++ map (hole_within (site_of l.site) l.initial.way.items)
    (holes_of_parts l.i (map with_holes (drop l.i l.exprs)))
    ≡ map application_of l.initial.found.items
    ++ map (hole_within (site_of l.site) l.initial.way.items)
    (holes_of_parts 0 (map with_holes l.exprs)))
