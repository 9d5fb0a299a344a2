-- The parts of a tuple are smaller.
use Rattle.std.proofs.Common.{◌≡◌, rules, ap, ◌∙◌, sym}
use Rattle.rn_declared.specs.link.Sizes.{parts_below}
use Rattle.rn_declared.specs.link.Forms.{pattern_of_form}
use Rattle.rn_declared.specs.declared.numbered.Form.TheVariants as F
use Rattle.rn_declared.specs.declared.pattern.Pattern.TheVariants as Pattern
use Rattle.rn_declared.proofs.numbered.+share.Goals as goal

pub share-all_share-requires : goal.share-all_share-requires
share-all_share-requires g t c κs within =
    let parts = c.as_slice.result.now in
    let same : c.in-Tuple.parts ≡ parts = search rules in
    let is : c.args.a.now ≡ Pattern.Tuple parts =
    sym c.a.view_is ∙ ap pattern_of_form (c.in-Tuple.is ∙ ap F.Tuple same) in
    (parts_below parts c.args.a.now t is c.decreases, within)
