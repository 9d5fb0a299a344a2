-- The arcs so far.
use Rattle.std.proofs.Common.{◌≡◌, ◌++◌, map, drop}
use Rattle.std.specs.Prelude.{flat_map}
use Rattle.std.specs.List.{enumerate_from}
use Rattle.rn_binding.specs.link.Applications.{application_of, holes_at}
use Rattle.rn_binding.specs.link.Applications.{arc_site}
use Rattle.rn_binding.proofs.applications.put_inscriptions.Given as goal

abbrev pub invariant-loop-k : goal.invariant-loop-k
invariant-loop-k l =
    map application_of l.found.items ++ flat_map holes_at (flat_map arc_site (enumerate_from l.k (drop l.k l.arcs)))
    ≡ map application_of l.initial.found.items ++ flat_map holes_at (flat_map arc_site (enumerate_from 0 l.arcs))
