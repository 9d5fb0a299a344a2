use Rattle.std.proofs.Common.{take}
use Rattle.rn_channel.specs.link.Uplinks.{AreOfNets}
use Rattle.rn_channel.proofs.uplinks.Uplinks.new.Given as goal

abbrev pub invariant-loop-net : goal.invariant-loop-net
invariant-loop-net l = AreOfNets l.system (take l.net-index l.system.nets) l.nets.items
