-- The channels are those of the declarations so far.
use Rattle.std.proofs.Common.{◌≡◌, map, take}
use Rattle.rn_numbered.specs.link.NumbersFound.{key_of}
use Rattle.rn_numbered.proofs.numbers.channel_names_of.Given as goal

abbrev pub invariant-loop-channel : goal.invariant-loop-channel
invariant-loop-channel l = l.names ≡ map key_of (take l.channel-index l.channels)
