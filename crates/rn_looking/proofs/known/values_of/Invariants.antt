-- The variables so far.
use Rattle.std.proofs.Common.{take}
use Rattle.rn_looking.specs.Knowing.{ArePairsOf}
use Rattle.rn_looking.proofs.known.values_of.Given as goal

abbrev pub invariant-loop-x : goal.invariant-loop-x
invariant-loop-x l = ArePairsOf l.growing l.path (take l.x-index l.vars) l.pairs.items
