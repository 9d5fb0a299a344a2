-- Equality by equality.
use Rattle.std.proofs.Common.{◌∙◌, refl, sym}
use Rattle.rn_agree.specs.link.Agreeing.{IsEqual}
use Rattle.rn_calc.specs.link.NodeValues.{lent_env}
use Rattle.rn_agree.proofs.EachLemmas.{each_more, each_at}
use Rattle.rn_agree.specs.link.Agreeing.{AreFitSides}
use Rattle.rn_agree.proofs.inscriptions.equalities_hold.Goals as goal

pub is_equal-requires-clause-left : goal.is_equal-requires-clause-left
is_equal-requires-clause-left c =
    let fit = each_at (AreFitSides (lent_env c.args.values.now)) c.args.equalities.now
    c.args.equalities.now c.loop-sides.sides-index c.sides-item.result refl
    c.loop-sides-test.true c.sides-item.is c.requires.fit in
    fit.0

pub is_equal-requires-clause-right : goal.is_equal-requires-clause-right
is_equal-requires-clause-right c =
    let fit = each_at (AreFitSides (lent_env c.args.values.now)) c.args.equalities.now
    c.args.equalities.now c.loop-sides.sides-index c.sides-item.result refl
    c.loop-sides-test.true c.sides-item.is c.requires.fit in
    fit.1

pub returns-then-not-branch : goal.returns-then-not-branch
returns-then-not-branch c = (
  λ no. absurd (let no : ⊥ = cc in no),
  λ all. sym c.if-not-branch.true ∙ c.in_ok-is_equal.ensures.1
      (each_at (IsEqual (lent_env c.args.values.now)) c.args.equalities.now c.args.equalities.now
      c.loop-sides.sides-index c.sides-item.result refl c.loop-sides-test.true c.sides-item.is all),
)

pub loop-sides-preserved : goal.loop-sides-preserved
loop-sides-preserved c =
    each_more (IsEqual (lent_env c.args.values.now)) c.args.equalities.now c.args.equalities.now
    c.loop-sides.sides-index c.sides-item.result refl c.loop-sides-test.true c.sides-item.is
    c.loop-sides.invariant (c.in_ok-is_equal.ensures.0 c.if-not-branch.false)
