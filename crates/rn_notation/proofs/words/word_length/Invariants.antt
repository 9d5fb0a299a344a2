use Rattle.rn_notation.proofs.Names.{◌≡◌, ◌+◌, drop, prefix_len, is_name_byte}
use Rattle.rn_notation.proofs.words.word_length.Given as goal

abbrev pub invariant-loop-i : goal.invariant-loop-i
invariant-loop-i l = l.i + prefix_len is_name_byte (drop l.i l.text) ≡ prefix_len is_name_byte l.text
