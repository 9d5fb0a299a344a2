-- The channels are those of the declarations so far.
use Rattle.std.proofs.Common.{◌≡◌, map, take}
use Rattle.rn_numbered.specs.Numbered.{kind_of}
use Rattle.rn_numbering.proofs.declarations.channels_of.Given as goal

abbrev pub invariant-loop-channel : goal.invariant-loop-channel
invariant-loop-channel l =
    l.made.items
    ≡ map (λ c. record { name = c.name.text; kinds = map kind_of c.kinds }) (take l.channel-index l.channels)
