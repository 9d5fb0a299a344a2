-- The digits and a space.
use Rattle.std.proofs.Common.{◌≡◌, ◌++◌, ◌∷◌, [], ap, ◌∙◌}
use Rattle.rn_value.specs.Text.{numeral}
use Rattle.rn_value.proofs.Numerals.{decimal-numeral}
use Rattle.rn_commands.proofs.bindings.numbered_lead.Goals as goal

pub returns : goal.returns
returns c =
    let number : c.as_bytes.result.now ≡ numeral c.args.number =
    c.as_bytes.ensures.value ∙ c.in_ok-text.ensures.ok
    ∙ decimal-numeral c.args.number c.ranges.number.fits in
    c.in_ok-push.ensures.items ∙ ap (λ x. x ++ 32 ∷ []) (c.in_ok-lead.ensures.items ∙ number)
