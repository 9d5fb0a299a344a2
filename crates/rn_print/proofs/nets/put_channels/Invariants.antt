-- The lines so far are written.
use Rattle.std.proofs.Common.{◌≡◌, ◌++◌, take}
use Rattle.std.specs.List.{flat_map}
use Rattle.rn_print.specs.Nets.{channel_text}
use Rattle.rn_print.proofs.nets.put_channels.Given as goal

abbrev pub invariant-loop-channel : goal.invariant-loop-channel
invariant-loop-channel l =
    l.out.items ≡ l.initial.out.items ++ flat_map channel_text (take l.channel-index l.channels)
