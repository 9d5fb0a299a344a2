use Rattle.std.proofs.Common.{ℕ, ◌<◌, get_or}
use Rattle.rn_model.specs.declared.expr.Expr.{Expr}
use Rattle.rn_agree.specs.link.Agreeing.{IsEqual}
use Rattle.rn_calc.specs.link.NodeValues.{lent_env}
use Rattle.rn_agree.proofs.inscriptions.equalities_hold.Given as goal

abbrev pub invariant-loop-sides : goal.invariant-loop-sides
invariant-loop-sides l = (k : ℕ) (d : Expr × Expr) → k < l.sides-index →
    IsEqual (lent_env l.values) (get_or l.equalities k d)
