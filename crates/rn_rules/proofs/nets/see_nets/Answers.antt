-- One more net, and the end of all.
use Rattle.std.proofs.Common.{◌∙◌, ap}
use Rattle.std.specs.Prelude.{is_some}
use Rattle.rn_declared.specs.Faults.{first_from}
use Rattle.rn_declared.specs.link.Tables.{found_in}
use Rattle.rn_declared.specs.link.Tables.{channel_in}
use Rattle.rn_rules.specs.link.Numbers.{channels_of}
use Rattle.rn_rules.specs.link.Scopes.{faults_in_net}
use Rattle.rn_declared.proofs.ToldLemmas.{told_more}
use Rattle.rn_rules.proofs.nets.see_nets.Goals as goal

pub loop-net-preserved : goal.loop-net-preserved
loop-net-preserved g c =
    let faults = faults_in_net (λ name. is_some (found_in c.args.table.now name)) (channel_in (channels_of c.args.channels.now)) in
    c.in_ok-see_net.ensures
    ∙ ap (λ k. first_from k (faults c.net-item.result)) c.loop-net.invariant
    ∙ told_more faults c.args.nets.now c.loop-net.net-index
    c.net-item.result c.args.first.now.fault c.loop-net-test.true c.net-item.is
