use Rattle.std.proofs.Common.{◌≡◌, ◌<◌, ◌^◌, IsTrue, drop}
use Rattle.std.specs.List.{list_all}
use Rattle.rn_value.specs.Characters.{is_digit, number_after}
use Rattle.rn_words.proofs.values.number_of.Given as goal

-- the number so far is below ten to the number of digits
abbrev pub invariant-loop-digit : goal.invariant-loop-digit
invariant-loop-digit l = record {
  spelled : number_after l.number (drop l.digit-index l.digits) ≡ number_after 0 l.digits;
  low : l.number < 10 ^ l.digit-index;
  digits : IsTrue (list_all is_digit (drop l.digit-index l.digits));
}
