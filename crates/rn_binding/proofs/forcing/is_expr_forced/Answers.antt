-- By the variables of the expression.
use Rattle.std.proofs.Common.{◌≡◌, rules, subst}
use Rattle.std.specs.Prelude.{IfOk, IsTrue, ◌↔◌, All}
use Rattle.rn_model.specs.Systems.{vars_in}
use Rattle.rn_binding.specs.link.Passing.{IsVarForcedOn}
use Rattle.rn_binding.proofs.forcing.is_expr_forced.Goals as goal

pub returns : goal.returns
returns c =
    let vars : c.as_slice.result.now ≡ vars_in c.args.expr.now = search rules in
    subst (λ xs. IfOk c.are_vars_forced.result
    (λ yes. IsTrue yes ↔ All (IsVarForcedOn c.args.growing.now c.args.path.now) xs)) vars
    c.are_vars_forced.ensures
