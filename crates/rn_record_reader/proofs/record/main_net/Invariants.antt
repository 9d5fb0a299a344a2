-- The number among the nets that are left, counted on, is that among all.
use Rattle.std.proofs.Common.{◌≡◌, drop}
use Rattle.std.specs.Prelude.{codes}
use Rattle.rn_lookup.specs.Found.{number_from, net_named}
use Rattle.rn_record_reader.proofs.record.main_net.Given as goal

abbrev pub invariant-loop-i : goal.invariant-loop-i
invariant-loop-i l =
    number_from (λ net. net.name) l.i (drop l.i l.system.nets) (codes "main")
    ≡ net_named l.system (codes "main")
