use Rattle.rn_notation.proofs.Names.{length, string_bytes}
use Rattle.rn_notation.proofs.TextLemmas.{ReadText}
use Rattle.rn_notation.proofs.texts.text_piece.Given as goal

abbrev pub invariant-loop-rest : goal.invariant-loop-rest
invariant-loop-rest l = ReadText l.source l.rest (string_bytes l.text)

abbrev pub decreases-loop-rest : goal.decreases-loop-rest
decreases-loop-rest l = length l.rest
