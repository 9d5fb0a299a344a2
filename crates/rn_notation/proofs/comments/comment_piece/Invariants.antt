use Rattle.rn_notation.proofs.Names.{length, drop}
use Rattle.rn_notation.proofs.TextLemmas.{Commented}
use Rattle.rn_notation.proofs.comments.comment_piece.Given as goal

abbrev pub invariant-loop-first : goal.invariant-loop-first
invariant-loop-first l = Commented (drop 2 l.fn.text) l.rest

abbrev pub decreases-loop-first : goal.decreases-loop-first
decreases-loop-first l = length l.rest
