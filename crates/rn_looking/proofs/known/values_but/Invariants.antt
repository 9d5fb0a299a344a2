-- The variables so far.
use Rattle.std.proofs.Common.{take}
use Rattle.rn_looking.specs.Knowing.{AreOthersOf}
use Rattle.rn_looking.proofs.known.values_but.Given as goal

abbrev pub invariant-loop-x : goal.invariant-loop-x
invariant-loop-x l = AreOthersOf l.growing l.path l.but (take l.x-index l.vars) l.pairs.items
