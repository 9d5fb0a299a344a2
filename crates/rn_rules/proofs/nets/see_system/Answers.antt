-- The channels, and the nets.
use Rattle.rn_declared.specs.link.Tables.{found_in}
use Rattle.rn_declared.specs.link.Tables.{channel_in}
use Rattle.rn_rules.proofs.NetLemmas.{system_told}
use Rattle.rn_rules.proofs.nets.see_system.Goals as goal

pub returns : goal.returns
returns c =
    system_told c.args.plain.now c.as_slice.result.now c.as_slice-nets.result.now
    (found_in c.in_ok-table.table) (channel_in c.in_ok-channels.channels) c.has_main.result
    c.args.first.now.fault c.tell_if.new.self.fault c.declare_channels.new.first.fault
    c.declare_all.new.first.fault c.see_numbered.new.first.fault c.as_slice.ensures c.as_slice-nets.ensures
    c.has_main.ensures c.in_ok-table.ensures.found c.in_ok-channels.ensures.found c.tell_if.ensures
    c.in_ok-channels.ensures.told c.in_ok-table.ensures.told c.in_ok-see_numbered.ensures
