-- The arguments so far.
use Rattle.std.proofs.Common.{◌≡◌, ◌++◌, map, drop}
use Rattle.std.specs.Prelude.{flat_map}
use Rattle.std.specs.List.{enumerate_from}
use Rattle.rn_binding.specs.link.Applications.{application_of, holes_at}
use Rattle.rn_model.specs.Derivation.{uplink_arg}
use Rattle.rn_binding.proofs.applications.put_uplink_args.Given as goal

abbrev pub invariant-loop-k : goal.invariant-loop-k
invariant-loop-k l =
    map application_of l.found.items ++ flat_map holes_at (map (λ e. (uplink_arg e.0, e.1)) (enumerate_from l.k (drop l.k l.args)))
    ≡ map application_of l.initial.found.items ++ flat_map holes_at (map (λ e. (uplink_arg e.0, e.1)) (enumerate_from 0 l.args))
