-- What was put, and what is left to put, is all.
use Rattle.std.proofs.Common.{◌≡◌, ◌++◌, drop, map}
use Rattle.std.specs.List.{concat}
use Rattle.rn_model.specs.Systems.{vars_in}
use Rattle.rn_model.proofs.variables.+vars.Given as goal

abbrev pub invariant-put_vars_of-loop-expr : goal.invariant-put_vars_of-loop-expr
invariant-put_vars_of-loop-expr l =
    l.vars.items ++ concat (map vars_in (drop l.expr-index l.exprs))
    ≡ l.initial.vars.items ++ concat (map vars_in l.exprs)
