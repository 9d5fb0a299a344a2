-- The comparisons in each part of a condition are fit, and what all lists say is its truth.
use Rattle.std.proofs.Common.{◌≡◌, ◌+◌, ◌≤◌, ◌∷◌, Bool, true, false, ◌||◌, None, map, drop, refl}
use Rattle.std.proofs.Common.{sym, ap, ◌∙◌, subst, arith}
use Rattle.std.proofs.lemmas.List.{drop_all, drop_more}
use Rattle.std.proofs.lemmas.Grind.{common_steps}
use Rattle.std.specs.Prelude.{Contains, Some, flat_map}
use Rattle.rn_model.specs.Evaluation.{simple_truth, all_true, some_true, both_defined}
use Rattle.rn_model.proofs.TruthLemmas.{truth-out}
use Rattle.rn_model.proofs.expr.Simple.TheLaws.{the_size}
use denote.Param.Weighed.{most, at_most}
use Rattle.rn_model.specs.declared.expr.Simple.TheViews.{the_lemmas}
use Rattle.rn_calc.specs.FitComparisons.{AreFit, comparisons_of}
use Rattle.rn_calc.proofs.ComparisonLemmas.{list_fit, simple_fit, negation_fit, compare_fit}
use Rattle.rn_calc.proofs.conditions.+condition.Goals as goal

or_end : (b : Bool) → both_defined (λ x y. x || y) (Some b) (Some false) ≡ Some b
or_end true = refl
or_end false = refl

pub truth_in-all_of-requires : goal.truth_in-all_of-requires
truth_in-all_of-requires g t c κs within =
    let env = g.V.Values.env c.args.values.now in
    let there = subst (λ lists. Contains lists c.list-item.result) c.as_slice-list-items.ensures
    (c.loop-list.list-index, c.loop-list-test.true, sym c.list-item.is) in (
      grind (arith, common_steps, the_lemmas),
      (
        within,
        (
          c.requires.step,
          subst (λ simples. AreFit env (flat_map comparisons_of simples)) (sym c.as_slice.ensures)
              (list_fit env c.args.cond.now c.list-item.result there c.requires.fit),
        ),
      ),
    )

pub truth_in-returns-in-None : goal.truth_in-returns-in-None
truth_in-returns-in-None g t c =
    let env = g.V.Values.env c.args.values.now in
    let lists = c.as_slice-list-items.result.now in
    let i = c.loop-list.list-index in
    let some = Some c.loop-list.some in
    let here : drop i lists ≡ c.list-item.result ∷ drop (i + 1) lists =
    drop_more lists i c.list-item.result c.loop-list-test.true
    ∙ ap (λ list. list ∷ drop (i + 1) lists) (sym c.list-item.is) in
    let none : all_true (map simple_truth c.list-item.result) env ≡ None =
    ap (λ list. all_true (map simple_truth list) env) (sym c.as_slice.ensures)
    ∙ sym c.in_ok-all.ensures ∙ c.in-None.is in
    sym
    (truth-out c.args.cond.now env
    ∙ ap (λ all. some_true (map (map simple_truth) all) env) (sym c.as_slice-list-items.ensures)
    ∙ c.loop-list.invariant
    ∙ ap (λ rest. both_defined (λ x y. x || y) some (some_true (map (map simple_truth) rest) env))
    here
    ∙ ap (λ one. both_defined (λ x y. x || y) some
    (both_defined (λ x y. x || y) one
    (some_true (map (map simple_truth) (drop (i + 1) lists)) env))) none)

pub truth_in-returns : goal.truth_in-returns
truth_in-returns g t c =
    let env = g.V.Values.env c.args.values.now in
    let some = Some c.loop-list.some in
    sym
    (truth-out c.args.cond.now env
    ∙ ap (λ all. some_true (map (map simple_truth) all) env) (sym c.as_slice-list-items.ensures)
    ∙ c.loop-list.invariant
    ∙ ap (λ rest. both_defined (λ x y. x || y) some (some_true (map (map simple_truth) rest) env))
    (drop_all c.loop-list.list-index c.as_slice-list-items.result.now c.loop-list-test.false)
    ∙ or_end c.loop-list.some)

pub all_of-one-requires : goal.all_of-one-requires
all_of-one-requires g t c κs within =
    let below : the_size c.simple-item.result ≤ most the_size c.args.simples.now =
    subst (λ x. the_size x ≤ most the_size c.args.simples.now) (sym c.simple-item.is)
    (at_most the_size c.args.simples.now c.loop-simple.simple-index c.simple-item.result
    c.loop-simple-test.true) in (
      omega (arith, below, c.decreases),
      (
        within,
        (
          c.requires.step,
          simple_fit (g.V.Values.env c.args.values.now) c.args.simples.now c.simple-item.result
              (c.loop-simple.simple-index, c.loop-simple-test.true, sym c.simple-item.is) c.requires.fit,
        ),
      ),
    )

pub one-read-requires-clause-fit : goal.one-read-requires-clause-fit
one-read-requires-clause-fit g t c =
    let env = g.V.Values.env c.args.values.now in
    (compare_fit env c.in-Compare.kind c.in-Compare.a c.in-Compare.b
    (subst (λ x. AreFit env (comparisons_of x)) c.in-Compare.is c.requires.fit)).left

pub one-read-requires-in-Compare-clause-fit : goal.one-read-requires-in-Compare-clause-fit
one-read-requires-in-Compare-clause-fit g t c =
    let env = g.V.Values.env c.args.values.now in
    (compare_fit env c.in-Compare.kind c.in-Compare.a c.in-Compare.b
    (subst (λ x. AreFit env (comparisons_of x)) c.in-Compare.is c.requires.fit)).right

pub one-compare_readings-requires : goal.one-compare_readings-requires
one-compare_readings-requires g t c =
    let env = g.V.Values.env c.args.values.now in
    let fit = compare_fit env c.in-Compare.kind c.in-Compare.a c.in-Compare.b
    (subst (λ x. AreFit env (comparisons_of x)) c.in-Compare.is c.requires.fit) in
    record {
      fit = λ v w left right. fit.values v w (sym c.in_ok-v-in-Compare.ensures ∙ left)
          (sym c.in_ok-w-in-Compare.ensures ∙ right);
    }

pub one-truth_in-requires : goal.one-truth_in-requires
one-truth_in-requires g t c κs within =
    let env = g.V.Values.env c.args.values.now in (
      grind (arith, common_steps, the_lemmas),
      (
        within,
        (
          c.requires.step,
          negation_fit env c.in-Not.cond
              (subst (λ x. AreFit env (comparisons_of x)) c.in-Not.is c.requires.fit),
        ),
      ),
    )
