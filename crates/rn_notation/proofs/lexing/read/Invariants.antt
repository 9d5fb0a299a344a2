use Rattle.rn_notation.proofs.Names.{length}
use Rattle.rn_notation.proofs.ReadingLemmas.{SoFar}
use Rattle.rn_notation.proofs.lexing.read.Given as goal

abbrev pub invariant-loop-first : goal.invariant-loop-first
invariant-loop-first l = SoFar l.bytes l.tokens l.spot l.rest

abbrev pub decreases-loop-first : goal.decreases-loop-first
decreases-loop-first l = length l.rest
