-- What was reported is that of the nets so far.
use Rattle.std.proofs.Common.{◌≡◌, take}
use Rattle.std.specs.Prelude.{flat_map, is_some}
use Rattle.rn_declared.specs.Faults.{first_from}
use Rattle.rn_declared.specs.link.Tables.{found_in}
use Rattle.rn_declared.specs.link.Tables.{channel_in}
use Rattle.rn_rules.specs.link.Numbers.{channels_of}
use Rattle.rn_rules.specs.link.Scopes.{faults_in_net}
use Rattle.rn_rules.proofs.nets.see_nets.Given as goal

abbrev pub invariant-loop-net : goal.invariant-loop-net
invariant-loop-net g l =
    l.first.fault
    ≡ first_from l.initial.first.fault
    (flat_map (faults_in_net (λ name. is_some (found_in l.table name)) (channel_in (channels_of l.channels)))
    (take l.net-index l.nets))
