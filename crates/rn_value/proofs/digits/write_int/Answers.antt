-- What the library writes of a number is the number's digits.
use Rattle.std.proofs.Common.{◌≡◌, ◌++◌, ap, ◌∙◌, rules}
use Rattle.std.specs.Fmt.{signed_decimal}
use Rattle.rn_value.specs.Text.{whole_number}
use Rattle.rn_value.proofs.Numerals.{signed_decimal-whole_number}
use Rattle.rn_value.proofs.digits.write_int.Goals as goal

pub returns-clause-ok : goal.returns-clause-ok
returns-clause-ok c =
    let own : signed_decimal c.args.n ≡ whole_number c.args.n = signed_decimal-whole_number c.args.n c.ranges.n.sfits in
    let text : c.as_bytes.result.now ≡ signed_decimal c.args.n = c.as_bytes.ensures.value ∙ search rules in
    c.in_ok-extend_from_slice.ensures.items ∙ ap (λ text. c.args.out.now.items ++ text) (text ∙ own)
