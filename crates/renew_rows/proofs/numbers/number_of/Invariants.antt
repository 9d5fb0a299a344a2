use Rattle.std.proofs.Common.{◌≡◌, drop}
use Rattle.std.specs.List.{list_all}
use Rattle.rn_value.specs.Characters.{is_digit, number_after}
use Rattle.renew_rows.proofs.numbers.number_of.Given as goal

-- the number so far and the digits to come spell the number
abbrev pub invariant-loop-digit : goal.invariant-loop-digit
invariant-loop-digit l = record {
  spelled : number_after l.number (drop l.digit-index l.digits) ≡ number_after 0 l.digits;
  digits : list_all is_digit (drop l.digit-index l.digits) ≡ list_all is_digit l.digits;
}
