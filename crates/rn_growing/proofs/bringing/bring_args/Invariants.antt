use Rattle.rn_growing.specs.link.Entering.{AllBelow, ArgHolds}
use Rattle.rn_growing.specs.link.Laid.{Adds, Grows}
use Rattle.rn_growing.proofs.bringing.bring_args.Given as goal

abbrev pub invariant-loop-k : goal.invariant-loop-k
invariant-loop-k l = Adds l.initial.laid (AllBelow (ArgHolds l.from l.args l.head l.others) l.k)
    l.laid × Grows l.initial.laid l.laid
