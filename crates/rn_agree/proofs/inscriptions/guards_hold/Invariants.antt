use Rattle.std.proofs.Common.{ℕ, ◌<◌, get_or}
use Rattle.rn_model.specs.declared.expr.Cond.{Cond}
use Rattle.rn_model.specs.Evaluation.{IsTrueUnder}
use Rattle.rn_calc.specs.link.NodeValues.{lent_env}
use Rattle.rn_agree.proofs.inscriptions.guards_hold.Given as goal

abbrev pub invariant-loop-guard : goal.invariant-loop-guard
invariant-loop-guard l = (k : ℕ) (d : Cond) → k < l.guard-index →
    IsTrueUnder (lent_env l.values) (get_or l.guards k d)
