-- Variable by variable.
use Rattle.std.proofs.Common.{subst, refl, arith}
use Rattle.std.specs.Prelude.{Some, None}
use Rattle.std.proofs.lemmas.List.{take_all}
use Rattle.rn_branch.specs.Making.{AreValues}
use Rattle.rn_branch.proofs.MadeSteps.{one_is_free, one_more_value}
use Rattle.rn_branch.proofs.made.values_of.Goals as goal

pub returns-in_default : goal.returns-in_default
returns-in_default c =
    one_is_free c.args.growing.now c.args.path.now c.args.vars.now c.loop-x.x-index
    c.loop-x-test.true None (rw c.in_default.is at c.in_ok-value.ensures)
    (λ v e. let no : ⊥ = cc in no)

pub loop-x-preserved : goal.loop-x-preserved
loop-x-preserved c =
    one_more_value c.args.growing.now c.args.path.now c.args.vars.now c.loop-x.x-index
    c.loop-x-test.true (Some c.in-Some.value) (rw c.in-Some.is at c.in_ok-value.ensures)
    c.in-Some.value refl c.loop-x.values.items _ c.in_ok-push.ensures.items c.loop-x.invariant

pub returns : goal.returns
returns c =
    subst (λ xs. AreValues c.args.growing.now c.args.path.now xs c.loop-x.values.items)
    (take_all c.loop-x.x-index c.args.vars.now (omega arith)) c.loop-x.invariant
