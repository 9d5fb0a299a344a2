-- Which variables of a node are forced, and what is known of expressions by them.
use Rattle.std.specs.Prelude.{ℕ, ◌≡◌, List, ◌∷◌, Option, Some, None, slice_get, Contains}
use Rattle.rn_value.specs.declared.value.Value.{Value}
use Rattle.rn_model.specs.declared.expr.Expr.{Expr}
use Rattle.rn_model.specs.declared.expr.Expr.TheVariants as Expr
use Rattle.rn_model.specs.declared.system.NetArc.{NetArc}
use Rattle.rn_model.specs.declared.system.Transition.{Transition}
use Rattle.rn_model.specs.Evaluation.{Env, worth}
use Rattle.rn_model.specs.Lists.{value_beside}
use Rattle.rn_model.specs.Systems.{vars_in}
use Rattle.rn_growing.specs.declared.decision.Head.{Head}
use Rattle.rn_growing.specs.Equations.{IsForced, IsForcedTo}
use Rattle.rn_growing.specs.Grown.{Grown}

-- a variable of the node on a path is forced, or forced to a value
abbrev pub IsVarForcedTo : Grown → List ℕ → ℕ → Value → Type 0
IsVarForcedTo g path x v = IsForcedTo g.system g.decisions (λ a. Some (a.var path x)) v

abbrev pub IsVarForcedIn : Grown → List ℕ → ℕ → Type 0
IsVarForcedIn g path x = IsForced g.system g.decisions (λ a. Some (a.var path x))

-- an environment has the value to which each variable of an expression is forced
pub record Knows (g : Grown) (head : Head) (e : Expr) (env : Env) : Type 0 where
  pub this : env.this ≡ head.inst
  pub step : env.step ≡ None
  pub forced : (x : ℕ) → Contains (vars_in e) x → (v : Value) ×
      (value_beside env.pairs x ≡ Some v) × IsVarForcedTo g head.path x v

-- the variables of an expression are known, and it has this value, or none
abbrev pub IsKnownWorth : Grown → Head → Expr → Option Value → Type 0
IsKnownWorth g head e w = (env : Env) × Knows g head e env × (worth e env ≡ w)

-- and it has this value
abbrev pub IsKnownValue : Grown → Head → Expr → Value → Type 0
IsKnownValue g head e v = IsKnownWorth g head e (Some v)

-- an expression is a tuple with this first part
abbrev pub IsFirstPart : Expr → Expr → Type 0
IsFirstPart e part = (parts : List Expr) × (e ≡ Expr.Tuple (part ∷ parts))

-- an expression is a tuple, and the value of its first part is known
abbrev pub IsKnownFirst : Grown → Head → Expr → Value → Type 0
IsKnownFirst g head e v = (part : Expr) × ((parts : List Expr) × (e ≡ Expr.Tuple (part ∷ parts))
    × IsKnownValue g head part v)

-- the inscription of a node's arc is such a tuple
abbrev pub IsKnownTokenFirst : Grown → Head → Transition → ℕ → Value → Type 0
IsKnownTokenFirst g head t k v = (x : NetArc) → slice_get t.arcs k ≡ Some x →
    IsKnownFirst g head x.inscription v
