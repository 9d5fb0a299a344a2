-- Part by part.
use Rattle.std.proofs.Common.{sym, subst}
use Rattle.std.specs.Prelude.{IsTrue, ◌↔◌}
use Rattle.std.proofs.lemmas.Result.{IfOk-weaker}
use Rattle.rn_model.specs.Enabling.{Fits}
use Rattle.rn_model.specs.Good.{Good}
use Rattle.rn_arcs.proofs.FitInscriptions.{agreeing_fit}
use Rattle.rn_search.specs.Solving.{Passes}
use Rattle.rn_branch.proofs.Passing.{fails_agreeing, fails_shape, passes_fitting}
use Rattle.rn_branch.proofs.branch.is_enabled.Goals as goal

pub does_agree-requires-clause-good : goal.does_agree-requires-clause-good
does_agree-requires-clause-good c =
    subst Good (sym c.system-system.ensures.same) c.system-system.ensures.good

pub fits-requires : goal.fits-requires
fits-requires c = record {
  fit = agreeing_fit c.system-system.result.now c.args.binding.now c.depth-depth.result
      (subst Good (sym c.system-system.ensures.same) c.system-system.ensures.good)
      (c.has_shape.ensures.0 c.if-not-has_shape.false)
      (c.in_ok-does_agree.ensures.0 c.if-not-branch.false);
}

pub returns-then-not-has_shape : goal.returns-then-not-has_shape
returns-then-not-has_shape c =
    fails_shape c.args.problem.now c.args.binding.now c.system-system.result.now
    c.depth-depth.result c.system-system.ensures.same c.depth-depth.ensures c.has_shape.result
    c.has_shape.ensures c.if-not-has_shape.true

pub returns-then-not-branch : goal.returns-then-not-branch
returns-then-not-branch c =
    fails_agreeing c.args.problem.now c.args.binding.now c.system-system.result.now
    c.depth-depth.result c.system-system.ensures.same c.depth-depth.ensures
    c.in_ok-does_agree.field-0 c.in_ok-does_agree.ensures c.if-not-branch.true

pub returns : goal.returns
returns c =
    IfOk-weaker c.fits.result
    (λ yes. IsTrue yes
    ↔ Fits c.system-system.result.now c.table.result.now.marking c.args.binding.now)
    (λ yes. IsTrue yes ↔ Passes c.args.problem.now c.args.binding.now)
    (λ yes fits. passes_fitting c.args.problem.now c.args.binding.now
    c.system-system.result.now c.depth-depth.result c.system-system.ensures.same
    c.depth-depth.ensures c.has_shape.result c.in_ok-does_agree.field-0 yes
    c.table.result.now.marking c.table.ensures.same c.has_shape.ensures c.if-not-has_shape.false
    c.in_ok-does_agree.ensures c.if-not-branch.false fits)
    c.fits.ensures.exact
