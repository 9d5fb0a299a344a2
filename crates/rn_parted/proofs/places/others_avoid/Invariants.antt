use Rattle.rn_parted.proofs.PlaceLemmas.{AvoidUpTo}
use Rattle.rn_parted.proofs.places.others_avoid.Given as goal

abbrev pub invariant-loop-other : goal.invariant-loop-other
invariant-loop-other l = AvoidUpTo l.inst.places l.place l.found.keys l.but l.other
