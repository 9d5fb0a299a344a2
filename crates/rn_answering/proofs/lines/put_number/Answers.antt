-- What the library writes of a number is the number's digits.
use Rattle.std.proofs.Common.{◌≡◌, ◌++◌, ap, ◌∙◌}
use Rattle.std.specs.Fmt.{decimal}
use Rattle.rn_value.specs.Text.{numeral}
use Rattle.rn_value.proofs.Numerals.{decimal-numeral}
use Rattle.rn_answering.proofs.lines.put_number.Goals as goal

pub returns : goal.returns
returns c =
    let own : decimal c.args.number ≡ numeral c.args.number = decimal-numeral c.args.number c.ranges.number.fits in
    let text : c.as_bytes.result.now ≡ decimal c.args.number = c.as_bytes.ensures.value ∙ c.in_ok-text.ensures.ok in
    c.in_ok-extend_from_slice.ensures.items ∙ ap (λ text. c.args.line.now.items ++ text) (text ∙ own)
