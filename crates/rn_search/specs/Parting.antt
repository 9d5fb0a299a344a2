-- Guards of which a part is known.
use Rattle.std.specs.Prelude.{◌≡◌, ◌<◌, true, false, List, Option, Some, option_and_then, length}
use Rattle.std.specs.Prelude.{Bool, Contains}
use Rattle.rn_value.specs.declared.value.Value.{Value}
use Rattle.rn_model.specs.declared.binding.Binding.{Binding}
use Rattle.rn_model.specs.declared.expr.CompareKind.{CompareKind}
use Rattle.rn_model.specs.declared.expr.Cond.{Cond}
use Rattle.rn_model.specs.declared.expr.Expr.{Expr}
use Rattle.rn_model.specs.declared.expr.Simple.{Simple}
use Rattle.rn_model.specs.declared.expr.Simple.TheVariants as Simple
use Rattle.rn_model.specs.declared.system.System.{System}
use Rattle.rn_model.specs.Evaluation.{Env, worth, comparison_of, truth}
use Rattle.rn_model.specs.Good.{guard_exprs}
use Rattle.rn_growing.specs.declared.decision.Decision.{Decision}
use Rattle.rn_growing.specs.declared.decision.Head.{Head}
use Rattle.rn_growing.specs.Decisions.{transition_in}
use Rattle.rn_growing.specs.Turns.{IsEntered, AreInTurn}
use Rattle.rn_search.specs.Sought.{Sought, Leads}
use Rattle.rn_search.specs.Missing.{IsKnown}

-- the answer of a comparison of two values, where both are there
abbrev pub answer_of : CompareKind → Option Value → Option Value → Option Bool
answer_of kind v w = option_and_then (λ x. option_and_then (comparison_of kind x) w) v

-- A condition is true as far as it is known: a comparison is where both sides are, and what is
-- negated is false where it is.
pub record IsTrueAsKnown (system : System) (ds : List Decision) (head : Head) (one : Simple)
    : Type 0 where
  pub comparison : (kind : CompareKind) (left right : Expr) (env other : Env) →
      one ≡ Simple.Compare kind left right → IsKnown system ds head left env →
      IsKnown system ds head right other →
      answer_of kind (worth left env) (worth right other) ≡ Some true
  pub negated : (cond : Cond) (env : Env) → one ≡ Simple.Not cond →
      ((e : Expr) → Contains (guard_exprs cond) e → IsKnown system ds head e env) →
      truth cond env ≡ Some false

-- Of the lists of a guard of a node that was entered there is one of which each condition is true as
-- far as it is known.
abbrev pub KnownPartsHold : Type 0
KnownPartsHold = (sought : Sought) (ds : List Decision) (b : Binding) (head : Head)
    (guard : Cond) → Leads sought ds b → AreInTurn sought.system ds → 0 < length ds →
    IsEntered ds head → Contains (transition_in sought.system head).guards guard →
    (all : List Simple) × Contains guard.any all
    × ((one : Simple) → Contains all one → IsTrueAsKnown sought.system ds head one)
