use Rattle.rn_notation.proofs.Names.{◌≡◌, ◌≤◌, ◌+◌, drop, prefix_len, is_digit, greatest_number}
use Rattle.rn_notation.proofs.NumberLemmas.{leading_number}
use Rattle.rn_notation.proofs.numbers.number_piece.Given as goal

abbrev pub invariant-loop-i : goal.invariant-loop-i
invariant-loop-i l = record {
  place : l.i + prefix_len is_digit (drop l.i l.text) ≡ prefix_len is_digit l.text;
  spelled : leading_number l.number (drop l.i l.text) ≡ leading_number 0 l.text;
  low : l.number ≤ greatest_number;
}
