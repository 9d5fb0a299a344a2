use Rattle.std.proofs.Common.{◌∙◌, sym, arith}
use Rattle.std.proofs.lemmas.Bool.{false≢true}
use Rattle.rn_lines.proofs.NumeralReading.{all_digits, numeral_digits, spelled_same, spelled_none}
use Rattle.rn_lines.proofs.numerals.is_numeral.Goals as goal

pub returns-then-digits_length-bytes : goal.returns-then-digits_length-bytes
returns-then-digits_length-bytes c = (
  (λ f. absurd (false≢true f)),
  (λ p. let long = (numeral_digits p).0 in absurd (omega (arith, long))),
)

pub returns-then-not-are_plain : goal.returns-then-not-are_plain
returns-then-not-are_plain c = ((λ f. absurd (false≢true f)), (λ p. c.if-not-are_plain.ensures ∙ (numeral_digits p).1))

pub returns-in-Some : goal.returns-in-Some
returns-in-Some c =
    spelled_same 18446744073709551615 c.in-Some.spelled c.args.number c.args.bytes.now (omega arith) (sym c.if-not-are_plain.ensures) (all_digits c.args.bytes.now (omega arith)) c.in-Some.ensures.exact

pub returns-in-None : goal.returns-in-None
returns-in-None c =
    ((λ f. absurd (false≢true f)), (λ p. absurd (spelled_none 18446744073709551615 c.args.number c.args.bytes.now (omega arith) c.in-None.ensures.exact p)))
