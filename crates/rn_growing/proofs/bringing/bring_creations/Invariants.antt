use Rattle.rn_growing.specs.link.Entering.{AllBelow, CreationHolds}
use Rattle.rn_growing.specs.link.Laid.{Adds, Grows}
use Rattle.rn_growing.proofs.bringing.bring_creations.Given as goal

abbrev pub invariant-loop-j : goal.invariant-loop-j
invariant-loop-j l = Adds l.initial.laid (AllBelow (CreationHolds l.head l.creations) l.j) l.laid ×
    Grows l.initial.laid l.laid
