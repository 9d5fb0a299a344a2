use Rattle.std.proofs.Common.{take}
use Rattle.rn_parted.proofs.AvoidLemmas.{AllAvoid}
use Rattle.rn_parted.proofs.touching.+touch.Given as goal

abbrev pub invariant-one_touches-loop-value : goal.invariant-one_touches-loop-value
invariant-one_touches-loop-value l = AllAvoid l.found.keys l.but (take l.value-index l.values)
