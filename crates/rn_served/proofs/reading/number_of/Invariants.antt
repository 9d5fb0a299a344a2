-- The number so far and the digits to come spell the number.
use Rattle.std.proofs.Common.{◌≡◌, ◌≤◌, IsTrue, drop, length}
use Rattle.std.specs.List.{list_all}
use Rattle.rn_value.specs.Characters.{is_digit, number_after}
use Rattle.rn_served.proofs.LineReading.{nines}
use Rattle.rn_served.proofs.reading.number_of.Given as goal

abbrev pub invariant-loop-digit : goal.invariant-loop-digit
invariant-loop-digit l = record {
  spelled : number_after l.number (drop l.digit-index l.bytes) ≡ number_after 0 l.bytes;
  low : l.number ≤ nines l.digit-index;
  digits : IsTrue (list_all is_digit (drop l.digit-index l.bytes));
  few : length l.bytes ≤ 6;
}
