-- Variable by variable.
use Rattle.std.proofs.Common.{◌∙◌, sym, get_or}
use Rattle.std.proofs.lemmas.List.{get_or_default}
use Rattle.rn_binding.proofs.ForcedVariables.{each_more}
use Rattle.rn_binding.specs.link.Passing.{IsVarForcedOn}
use Rattle.rn_binding.proofs.forcing.are_vars_forced.Goals as goal

pub returns-then-not-branch : goal.returns-then-not-branch
returns-then-not-branch c = (
  λ no. absurd (let no : ⊥ = cc in no),
  λ all. sym c.if-not-branch.true
      ∙ c.in_ok-is_forced.ensures.1 (all c.loop-x.x-index 0 c.loop-x-test.true),
)

pub loop-x-preserved : goal.loop-x-preserved
loop-x-preserved c =
    each_more (IsVarForcedOn c.args.growing.now c.args.path.now) c.args.vars.now
    c.loop-x.x-index (get_or c.args.vars.now c.loop-x.x-index 0) c.loop-x-test.true
    (get_or_default c.args.vars.now c.loop-x.x-index 0 (get_or c.args.vars.now c.loop-x.x-index 0)
    c.loop-x-test.true) c.loop-x.invariant (c.in_ok-is_forced.ensures.0 c.if-not-branch.false)
