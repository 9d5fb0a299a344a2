use Rattle.std.proofs.Common.{drop}
use Rattle.std.specs.Prelude.{◌↔◌}
use Rattle.std.specs.List.{AllZip}
use Rattle.rn_model.specs.declared.expr.Expr.{Expr}
use Rattle.rn_model.specs.Lists.{HaveOneValue}
use Rattle.rn_model.specs.Evaluation.{worth}
use Rattle.rn_calc.specs.link.NodeValues.{lent_env}
use Rattle.rn_agree.proofs.calls.args_agree.Given as goal

abbrev pub invariant-loop-k : goal.invariant-loop-k
invariant-loop-k l =
    let Alike : Expr → Expr → Type 0
    = λ e f. HaveOneValue (worth e (lent_env l.values)) (worth f (lent_env l.other_values)) in
    AllZip Alike (drop l.k l.args) (drop l.k l.others) ↔ AllZip Alike l.args l.others
