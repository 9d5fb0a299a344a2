-- Parts of a guard that are known not to be true.
use Rattle.std.specs.Prelude.{◌≡◌, ◌⊎◌, true, List, [], ◌∷◌, Option, Some, Contains}
use Rattle.rn_value.specs.declared.value.Value.{Value}
use Rattle.rn_model.specs.declared.expr.CompareKind.{CompareKind}
use Rattle.rn_model.specs.declared.expr.Cond.{Cond}
use Rattle.rn_model.specs.declared.expr.Expr.{Expr}
use Rattle.rn_model.specs.declared.expr.Simple.{Simple}
use Rattle.rn_model.specs.declared.expr.Simple.TheVariants as Simple
use Rattle.rn_model.specs.Evaluation.{Env, IsTrueUnder}
use Rattle.rn_growing.specs.declared.decision.Head.{Head}
use Rattle.rn_growing.specs.Grown.{Grown}
use Rattle.rn_search.specs.Parting.{answer_of}
use Rattle.rn_looking.specs.Forced.{IsKnownWorth}
use Rattle.rn_looking.specs.Guards.{KnowsGuard}

-- It is a comparison whose sides are known, and it isn't true of their values.
pub record IsUntrueComparison (g : Grown) (head : Head) (one : Simple) : Type 0 where
  pub kind : CompareKind
  pub left : Expr
  pub right : Expr
  pub is : one ≡ Simple.Compare kind left right
  pub first : Option Value
  pub second : Option Value
  pub knows_left : IsKnownWorth g head left first
  pub knows_right : IsKnownWorth g head right second
  pub untrue : ¬ (answer_of kind first second ≡ Some true)

-- It is the negation of a condition that is known, and that is true.
pub record IsTrueNegated (g : Grown) (head : Head) (one : Simple) : Type 0 where
  pub cond : Cond
  pub is : one ≡ Simple.Not cond
  pub env : Env
  pub knows : KnowsGuard g head cond env
  pub holds : IsTrueUnder env cond

abbrev pub IsUntrue : Grown → Head → Simple → Type 0
IsUntrue g head one = IsUntrueComparison g head one ⊎ IsTrueNegated g head one

-- One of these conditions, or of the list that a guard is, is known not to be true.
abbrev pub HasUntrue : Grown → Head → List Simple → Type 0
HasUntrue g head simples = (one : Simple) × (Contains simples one × IsUntrue g head one)

abbrev pub IsPartlyUntrue : Grown → Head → Cond → Type 0
IsPartlyUntrue g head guard = (simples : List Simple) × ((guard.any ≡ simples ∷ [])
    × HasUntrue g head simples)
