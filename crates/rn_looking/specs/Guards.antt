-- Guards of a node: their variables, and where they are known not to hold.
use Rattle.std.specs.Prelude.{ℕ, List, Contains, ◌++◌, flat_map}
use Rattle.rn_model.specs.declared.expr.Cond.{Cond}
use Rattle.rn_model.specs.declared.expr.Expr.{Expr}
use Rattle.rn_model.specs.declared.expr.Simple.{Simple, fold-Simple}
use Rattle.rn_model.specs.Evaluation.{Env, IsTrueUnder}
use Rattle.rn_model.specs.Good.{Comparison, comparisons_step, comparisons_in, guard_exprs}
use Rattle.rn_model.specs.Systems.{vars_in}
use Rattle.rn_growing.specs.declared.decision.Head.{Head}
use Rattle.rn_growing.specs.Grown.{Grown}
use Rattle.rn_looking.specs.Forced.{Knows}

-- all comparisons of a comparison or a negation
abbrev pub comparisons_of : Simple → List Comparison
comparisons_of =
    fold-Simple (List Comparison) (List Comparison) comparisons_step
    (λ cond. flat_map (λ list. flat_map (λ c. c) list) cond.any)

-- the variables of both sides
abbrev pub vars_of_comparison : Comparison → List ℕ
vars_of_comparison c = vars_in c.left ++ vars_in c.right

-- the variables of a comparison or a negation, and of a guard
abbrev pub vars_of_simple : Simple → List ℕ
vars_of_simple simple = flat_map vars_of_comparison (comparisons_of simple)

abbrev pub vars_of_guard : Cond → List ℕ
vars_of_guard guard = flat_map vars_of_comparison (comparisons_in guard)

-- an environment has the value to which each variable of a guard is forced
abbrev pub KnowsGuard : Grown → Head → Cond → Env → Type 0
KnowsGuard g head guard env = (e : Expr) → Contains (guard_exprs guard) e → Knows g head e env

-- all variables of a guard are forced, and it isn't true: it is false, or not all of it is defined
abbrev pub IsKnownUntrue : Grown → Head → Cond → Type 0
IsKnownUntrue g head guard =
    (env : Env) × KnowsGuard g head guard env × ¬ IsTrueUnder env guard
