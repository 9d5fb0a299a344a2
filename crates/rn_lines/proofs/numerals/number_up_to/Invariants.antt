use Rattle.std.proofs.Common.{◌≡◌, ◌≤◌, drop}
use Rattle.rn_value.specs.Characters.{number_after}
use Rattle.rn_lines.proofs.numerals.number_up_to.Given as goal

-- the number so far and the digits to come spell the number
abbrev pub invariant-loop-digit : goal.invariant-loop-digit
invariant-loop-digit l = record {
  spelled : number_after l.number (drop l.digit-index l.digits) ≡ number_after 0 l.digits;
  low : l.number ≤ l.most;
}
