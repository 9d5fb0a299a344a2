-- What guards ask a variable to be the same as, and which token an arc finds by that.
use Rattle.std.specs.Prelude.{ℕ, ◌≡◌, ◌⊎◌, List, [], ◌∷◌, Option, Some, slice_get, Contains}
use Rattle.rn_value.specs.declared.value.Value.{Value}
use Rattle.rn_model.specs.declared.expr.CompareKind.TheVariants.{Same}
use Rattle.rn_model.specs.declared.expr.Cond.{Cond}
use Rattle.rn_model.specs.declared.expr.Expr.{Expr}
use Rattle.rn_model.specs.declared.expr.Simple.{Simple}
use Rattle.rn_model.specs.declared.system.NetArc.{NetArc}
use Rattle.rn_model.specs.declared.system.Transition.{Transition}
use Rattle.rn_growing.specs.declared.decision.Head.{Head}
use Rattle.rn_growing.specs.Grown.{Grown}
use Rattle.rn_looking.specs.Forced.{IsKnownWorth}

-- a comparison asks that a variable is the same as this
abbrev pub IsSide : Simple → ℕ → Expr → Type 0
IsSide simple x e = (simple ≡ Simple.Compare Same (Expr.Var x) e)
    ⊎ (simple ≡ Simple.Compare Same e (Expr.Var x))

-- One of these conditions, or of the list that a guard is, or a guard of a transition asks that a
-- variable is the same as an expression whose variables are forced, and this is that one's value.
abbrev pub IsEquatedIn : Grown → Head → List Simple → ℕ → Option Value → Type 0
IsEquatedIn g head simples x w = (simple : Simple) × (Contains simples simple × ((e : Expr)
    × (IsSide simple x e × IsKnownWorth g head e w)))

abbrev pub IsEquatedBy : Grown → Head → Cond → ℕ → Option Value → Type 0
IsEquatedBy g head guard x w = (simples : List Simple) × ((guard.any ≡ simples ∷ [])
    × IsEquatedIn g head simples x w)

abbrev pub IsEquated : Grown → Head → Transition → ℕ → Option Value → Type 0
IsEquated g head t x w = (guard : Cond) × (Contains t.guards guard × IsEquatedBy g head guard x w)

-- The token of an arc with an inscription is known to be this, or that it finds none: by the
-- variables of the inscription, or where that is a variable alone, by a guard.
abbrev pub IsTokenOf : Grown → Head → Transition → Expr → Option Value → Type 0
IsTokenOf g head t e w = IsKnownWorth g head e w
    ⊎ ((x : ℕ) × ((e ≡ Expr.Var x) × IsEquated g head t x w))

abbrev pub IsKnownToken : Grown → Head → Transition → ℕ → Option Value → Type 0
IsKnownToken g head t k w = (x : NetArc) → slice_get t.arcs k ≡ Some x →
    IsTokenOf g head t x.inscription w
