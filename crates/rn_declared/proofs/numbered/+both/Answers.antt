-- The patterns of both, one by one.
use Rattle.std.proofs.Common.{arith}
use Rattle.std.proofs.lemmas.Grind.{common_steps}
use Rattle.rn_declared.proofs.PatternLemmas.{all_both_more, all_both_past}
use Rattle.std.proofs.Common.{◌≡◌, rules, ap, ◌∙◌, sym}
use Rattle.rn_declared.specs.Patterns.{both_of}
use Rattle.rn_declared.proofs.CommonPatterns.{any_both, tuple_kept}
use Rattle.rn_declared.specs.link.Sizes.{parts_below}
use Rattle.rn_declared.specs.link.Forms.{pattern_of_form}
use Rattle.rn_declared.specs.declared.numbered.Form.TheVariants as F
use Rattle.rn_declared.specs.declared.pattern.Pattern.TheVariants as Pattern
use Rattle.rn_declared.proofs.numbered.+both.Goals as goal

pub tuple_both-loop-i-preserved : goal.tuple_both-loop-i-preserved
tuple_both-loop-i-preserved g t c =
    let more = all_both_more c.args.parts.now c.args.others.now c.loop-i.patterns.items c.loop-i.i
    c.index-parts-i.result (omega arith) c.index-parts-i.is in
    grind (arith, common_steps, more)

pub tuple_both-returns : goal.tuple_both-returns
tuple_both-returns g t c =
    let past = all_both_past c.args.parts.now c.args.others.now c.loop-i.i (omega arith) in
    grind (arith, common_steps, past)

pub both_of-tuple_both-requires : goal.both_of-tuple_both-requires
both_of-tuple_both-requires g t c κs within =
    let parts = c.as_slice.result.now in
    let same : c.in-Tuple.parts ≡ parts = search rules in
    let is : c.args.a.now ≡ Pattern.Tuple parts =
    sym c.a.view_is ∙ ap pattern_of_form (c.in-Tuple.is ∙ ap F.Tuple same) in
    (parts_below parts c.args.a.now t is c.decreases, within)

pub both_of-returns-in_ok-copy-in-Any : goal.both_of-returns-in_ok-copy-in-Any
both_of-returns-in_ok-copy-in-Any g t c =
    c.in_ok-copy-in-Any.ensures
    ∙ sym
    (ap (λ p. both_of p c.args.b.now) (sym c.a.view_is ∙ ap pattern_of_form c.in-Any.is)
    ∙ any_both c.args.b.now)

pub both_of-returns-in_ok-copy-in_default-form : goal.both_of-returns-in_ok-copy-in_default-form
both_of-returns-in_ok-copy-in_default-form g t c =
    let is : c.args.a.now ≡ Pattern.Tuple c.in-Tuple.parts = sym c.a.view_is ∙ ap pattern_of_form c.in-Tuple.is in
    c.in_ok-copy-in_default-form.ensures
    ∙ is
    ∙ sym
    (ap (λ p. both_of p c.args.b.now) is
    ∙ ap (both_of (Pattern.Tuple c.in-Tuple.parts)) (sym c.b.view_is)
    ∙ tuple_kept c.in-Tuple.parts c.b.inside.form c.in_default-form.not-Tuple)
