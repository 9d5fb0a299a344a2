-- The nets are those of the declarations so far.
use Rattle.std.proofs.Common.{◌≡◌, map}
use Rattle.rn_numbering.specs.link.Making.{net_by}
use Rattle.rn_numbered.specs.link.NumbersFound.{channel_by}
use Rattle.rn_numbering.proofs.numbering.nets_of.Given as goal

abbrev pub invariant-loop-net : goal.invariant-loop-net
invariant-loop-net l = l.made.items ≡ map (net_by l.names (channel_by l.channels)) l.yielded
