-- One more channel.
use Rattle.rn_numbered.proofs.NumberLemmas.{channel_more}
use Rattle.rn_numbered.proofs.numbers.channel_names_of.Goals as goal

pub loop-channel-preserved : goal.loop-channel-preserved
loop-channel-preserved c =
    channel_more c.args.channels.now c.loop-channel.channel-index c.channel-item.result
    c.loop-channel.names c.put.new.self c.len.result c.loop-channel-test.true c.channel-item.is
    c.requires c.loop-channel.invariant c.len.ensures c.in_ok-put.ensures
