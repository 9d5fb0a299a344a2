-- Part by part.
use Rattle.std.proofs.Common.{◌∙◌, sym, subst}
use Rattle.std.specs.Prelude.{All}
use Rattle.std.proofs.lemmas.Result.{IfOk-weaker}
use Rattle.rn_model.specs.Evaluation.{IsTrueUnder}
use Rattle.rn_agree.specs.link.Agreeing.{AreCreated, IsEqual}
use Rattle.rn_calc.specs.link.NodeValues.{lent_env}
use Rattle.rn_agree.proofs.AgreeLemmas.{hold_by_arcs}
use Rattle.rn_calc.specs.FitComparisons.{ComparisonsAreFit}
use Rattle.rn_agree.specs.link.Agreeing.{AreFitSides}
use Rattle.rn_agree.proofs.inscriptions.inscriptions_hold.Goals as goal

pub equalities_hold-requires : goal.equalities_hold-requires
equalities_hold-requires c =
    let fit = subst (All (AreFitSides (lent_env c.args.values.now))) (sym c.as_slice-2.ensures)
    c.requires.fit.equalities in
    record { fit = fit }

pub guards_hold-requires : goal.guards_hold-requires
guards_hold-requires c =
    let fit = subst (All (ComparisonsAreFit (lent_env c.args.values.now))) (sym c.as_slice-3.ensures)
    c.requires.fit.guards in
    record { fit = fit }

pub returns-then-not-branch : goal.returns-then-not-branch
returns-then-not-branch c = (
  λ no. absurd (let no : ⊥ = cc in no),
  λ hold. sym c.if-not-branch.true ∙ c.in_ok-equalities_hold.ensures.1
      (subst (All (IsEqual (lent_env c.args.values.now)))
      (sym c.as_slice-2.ensures) hold.equalities),
)

pub returns : goal.returns
returns c =
    IfOk-weaker _ _ _ (λ answer decides.
    hold_by_arcs c.args.transition.now c.args.path.now (lent_env c.args.values.now) answer
    (subst (AreCreated c.args.path.now (lent_env c.args.values.now)) c.as_slice.ensures
    (c.are_created.ensures.0 c.if-not-are_created.false))
    (subst (All (IsEqual (lent_env c.args.values.now))) c.as_slice-2.ensures
    (c.in_ok-equalities_hold.ensures.0 c.if-not-branch.false))
    (subst (All (IsTrueUnder (lent_env c.args.values.now))) c.as_slice-3.ensures
    (c.in_ok-guards_hold.ensures.0 c.if-not-branch-2.false)) decides) c.arcs_have_values.ensures
