-- The constant, and whether it fits.
use Rattle.std.proofs.Common.{◌∙◌, ap, not}
use Rattle.rn_declared.specs.declared.fault.Rule.TheVariants as Rule
use Rattle.rn_declared.specs.Faults.{first_from, broken_if}
use Rattle.rn_declared.specs.Declarations.{const_part}
use Rattle.rn_declared.proofs.PlaceLemmas.{token_told}
use Rattle.rn_declared.proofs.places.see_token.Goals as goal

pub returns : goal.returns
returns c =
    c.tell_if.ensures
    ∙ ap (λ k. first_from k (broken_if (not c.fits.result) Rule.Kinds c.spot.result)) c.see_const.ensures
    ∙ ap (λ b. first_from (first_from c.args.first.now.fault (const_part c.args.token.now).faults) (broken_if (not b) Rule.Kinds c.spot.result)) c.fits.ensures
    ∙ token_told c.args.token.now c.args.pattern.now c.spot.result c.args.first.now.fault c.spot.ensures
