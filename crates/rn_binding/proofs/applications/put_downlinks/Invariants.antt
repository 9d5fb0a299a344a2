-- The downlinks so far.
use Rattle.std.proofs.Common.{◌≡◌, ◌++◌, map, drop}
use Rattle.std.specs.Prelude.{flat_map}
use Rattle.std.specs.List.{enumerate_from}
use Rattle.rn_binding.specs.link.Applications.{application_of, holes_at}
use Rattle.rn_model.specs.Derivation.{args_of}
use Rattle.rn_binding.proofs.applications.put_downlinks.Given as goal

abbrev pub invariant-loop-i : goal.invariant-loop-i
invariant-loop-i l =
    map application_of l.found.items ++ flat_map holes_at (flat_map args_of (enumerate_from l.i (drop l.i l.downlinks)))
    ≡ map application_of l.initial.found.items ++ flat_map holes_at (flat_map args_of (enumerate_from 0 l.downlinks))
