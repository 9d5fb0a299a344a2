-- The nets, with the channels as they are without numbers.
use Rattle.std.proofs.Common.{◌∙◌, ap}
use Rattle.std.specs.Prelude.{flat_map, is_some}
use Rattle.rn_declared.specs.Faults.{first_from}
use Rattle.rn_declared.specs.link.Tables.{found_in, channel_in}
use Rattle.rn_rules.specs.link.Scopes.{faults_in_net}
use Rattle.rn_rules.proofs.nets.see_numbered.Goals as goal

pub returns : goal.returns
returns g c =
    c.in_ok-see_nets.ensures
    ∙ ap
    (λ channels. first_from c.args.first.now.fault
    (flat_map (faults_in_net (λ name. is_some (found_in c.args.table.now name)) (channel_in channels)) c.args.nets.now))
    c.in_ok-channels.ensures
