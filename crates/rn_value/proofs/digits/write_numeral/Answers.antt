-- What the library writes of a number is the number's digits.
use Rattle.std.proofs.Common.{◌≡◌, ◌++◌, ap, ◌∙◌}
use Rattle.std.specs.Fmt.{decimal}
use Rattle.rn_value.specs.Text.{numeral}
use Rattle.rn_value.proofs.Numerals.{decimal-numeral}
use Rattle.rn_value.proofs.digits.write_numeral.Goals as goal

pub returns-clause-ok : goal.returns-clause-ok
returns-clause-ok c =
    let own : decimal c.args.n ≡ numeral c.args.n = decimal-numeral c.args.n c.ranges.n.fits in
    let text : c.as_bytes.result.now ≡ decimal c.args.n = c.as_bytes.ensures.value ∙ c.in_ok-text.ensures.ok in
    c.in_ok-extend_from_slice.ensures.items ∙ ap (λ text. c.args.out.now.items ++ text) (text ∙ own)
