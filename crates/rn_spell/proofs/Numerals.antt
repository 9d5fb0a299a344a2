-- What the library writes of a machine's number is its numeral.
use Rattle.rn_value.proofs.Numerals.{decimal-numeral, signed_decimal-whole_number}

pub ruleset numerals = (decimal-numeral, signed_decimal-whole_number)
