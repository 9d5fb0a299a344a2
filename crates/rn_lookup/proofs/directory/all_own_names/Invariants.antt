use Rattle.std.proofs.Common.{take}
use Rattle.rn_lookup.specs.link.Tables.{AreOwnOf}
use Rattle.rn_lookup.proofs.directory.all_own_names.Given as goal

abbrev pub invariant-loop-net : goal.invariant-loop-net
invariant-loop-net l = AreOwnOf (take l.net-index l.nets) l.own.items
