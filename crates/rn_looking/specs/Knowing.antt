-- What is known of the variables of an expression.
use Rattle.std.specs.Prelude.{ℕ, ◌≡◌, ◌⊎◌, List, Option, Some, None, map, All, Contains}
use Rattle.rn_value.specs.declared.value.Value.{Value}
use Rattle.rn_model.specs.declared.expr.Cond.{Cond}
use Rattle.rn_model.specs.declared.expr.Expr.{Expr}
use Rattle.rn_model.specs.Evaluation.{Env}
use Rattle.rn_model.specs.Systems.{vars_in}
use Rattle.rn_growing.specs.declared.decision.Head.{Head}
use Rattle.rn_growing.specs.Grown.{Grown}
use Rattle.rn_looking.specs.declared.known.Known.{Known}
use Rattle.rn_looking.specs.Guards.{KnowsGuard, vars_of_guard}
pub use Rattle.rn_looking.specs.Forced.{IsVarForcedTo, IsVarForcedIn, Knows, IsKnownValue, IsKnownWorth}
pub use Rattle.rn_looking.specs.Forced.{IsKnownFirst, IsKnownTokenFirst}

-- what known values are read as
abbrev pub known_env : Known → Env
known_env k = record { this = k.this.now; step = None; pairs = k.pairs.items }

-- These are the variables, each beside the value to which it is forced.
abbrev pub ArePairsOf : Grown → List ℕ → List ℕ → List (ℕ × Value) → Type 0
ArePairsOf g path vars pairs =
    (map (λ p. p.0) pairs ≡ vars) × All (λ p. IsVarForcedTo g path p.0 p.1) pairs

-- These are the variables but one, each beside the value to which it is forced.
pub record AreOthersOf (g : Grown) (path : List ℕ) (x : ℕ) (vars : List ℕ)
    (others : List (ℕ × Value)) : Type 0 where
  pub forced : All (λ p. IsVarForcedTo g path p.0 p.1) others
  pub each : (y : ℕ) → Contains vars y → (x ≡ y) ⊎ Contains (map (λ p. p.0) others) y

-- the values of the variables of an expression, or none where one isn't forced
abbrev pub KnowsVars : Grown → Head → Expr → Option Known → Type 0
KnowsVars g head e None = ¬ All (IsVarForcedIn g head.path) (vars_in e)
KnowsVars g head e (Some known) = Knows g head e (known_env known)

-- the values of the variables of a guard, or none where one isn't forced
abbrev pub KnowsGuardVars : Grown → Head → Cond → Option Known → Type 0
KnowsGuardVars g head guard None = ¬ All (IsVarForcedIn g head.path) (vars_of_guard guard)
KnowsGuardVars g head guard (Some known) = KnowsGuard g head guard (known_env known)
