use Rattle.rn_growing.specs.link.Entering.{AllBelow, EqualityHolds}
use Rattle.rn_growing.specs.link.Laid.{Adds, Grows}
use Rattle.rn_growing.proofs.bringing.bring_equalities.Given as goal

abbrev pub invariant-loop-i : goal.invariant-loop-i
invariant-loop-i l = Adds l.initial.laid (AllBelow (EqualityHolds l.head l.equalities) l.i)
    l.laid × Grows l.initial.laid l.laid
