use Rattle.rn_notation.proofs.Names.{◌≡◌, length, is_closed}
use Rattle.rn_notation.proofs.texts.is_closed.Given as goal

abbrev pub invariant-loop-first : goal.invariant-loop-first
invariant-loop-first l = is_closed l.rest ≡ is_closed l.text

abbrev pub decreases-loop-first : goal.decreases-loop-first
decreases-loop-first l = length l.rest
