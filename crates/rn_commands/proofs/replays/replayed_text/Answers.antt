-- What the library writes of a number is the number's digits.
use Rattle.std.proofs.Common.{◌≡◌, ◌∙◌, rules}
use Rattle.rn_value.specs.Text.{numeral}
use Rattle.rn_value.proofs.Numerals.{decimal-numeral}
use Rattle.rn_commands.proofs.replays.replayed_text.Goals as goal

pub returns : goal.returns
returns c =
    let digits : c.as_bytes.result.now ≡ numeral c.args.count =
    c.as_bytes.ensures.value ∙ c.in_ok-number.ensures.ok ∙ decimal-numeral c.args.count c.ranges.count.fits in
    search (rules, digits)
