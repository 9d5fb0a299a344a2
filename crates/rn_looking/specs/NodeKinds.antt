-- What decisions force at a node has its kind, and what stands there has kinds. So what is computed
-- with forced values meets no value of a wrong kind.
use Rattle.std.specs.Prelude.{ℕ, ⊤, List, ◌∷◌, Option, Some, None, flat_map, Contains, All}
use Rattle.rn_value.specs.Kinds.{HasKind}
use Rattle.rn_value.specs.declared.value.Kind.{Kind}
use Rattle.rn_value.specs.declared.value.Value.{Value}
use Rattle.rn_model.specs.declared.expr.Cond.{Cond}
use Rattle.rn_model.specs.declared.expr.Expr.{Expr}
use Rattle.rn_model.specs.declared.expr.Simple.{Simple}
use Rattle.rn_model.specs.declared.system.Transition.{Transition}
use Rattle.rn_model.specs.Good.{Comparison, CanCompare, comparisons_in, all_exprs}
use Rattle.rn_model.specs.Kinds.{HasExprKind}
use Rattle.rn_model.specs.Systems.{var_kind}
use Rattle.rn_growing.specs.declared.decision.Head.{Head}
use Rattle.rn_growing.specs.Grown.{Grown}
use Rattle.rn_looking.specs.declared.known.Known.{Known}
use Rattle.rn_looking.specs.Forced.{IsVarForcedTo}
use Rattle.rn_looking.specs.Guards.{comparisons_of}

-- the kinds of the variables of a node
abbrev pub kinds_at : Grown → Head → ℕ → Kind
kinds_at g head = var_kind g.system head.net

-- the value to which a variable of a node is forced has its kind
abbrev pub ForceKinds : Grown → Head → Type 0
ForceKinds g head =
    (x : ℕ) (v : Value) → IsVarForcedTo g head.path x v → HasKind v (kinds_at g head x)

-- and an expression of that node has a kind
abbrev pub IsKindedAt : Grown → Head → Expr → Type 0
IsKindedAt g head e = ForceKinds g head
    × ((kind : Kind) × HasExprKind (kinds_at g head) e kind)

-- these comparisons compare what they may, where variables have these kinds
abbrev pub Compare : (ℕ → Kind) → List Comparison → Type 0
Compare kinds cs = (c : Comparison) → Contains cs c → CanCompare kinds c c.kind

-- so do those of a condition of a node, of a part of it, and of several parts
abbrev pub IsGuardAt : Grown → Head → Cond → Type 0
IsGuardAt g head guard = ForceKinds g head × Compare (kinds_at g head) (comparisons_in guard)

abbrev pub ArePartsAt : Grown → Head → List Simple → Type 0
ArePartsAt g head simples =
    ForceKinds g head × Compare (kinds_at g head) (flat_map comparisons_of simples)

-- the guards of a transition do
abbrev pub GuardsCompare : (ℕ → Kind) → Transition → Type 0
GuardsCompare kinds t =
    (guard : Cond) → Contains t.guards guard → Compare kinds (comparisons_in guard)

-- What is forced at a node of this transition has its kind, each expression has one, and guards
-- compare what they may.
pub record IsKindedNode (g : Grown) (head : Head) (t : Transition) : Type 0 where
  pub forces : ForceKinds g head
  pub exprs : (e : Expr) → Contains (all_exprs t) e →
      (kind : Kind) × HasExprKind (kinds_at g head) e kind
  pub guards : GuardsCompare (kinds_at g head) t

-- each variable stands beside a value to which it is forced
abbrev pub AreForced : Grown → Head → List (ℕ × Value) → Type 0
AreForced g head pairs = All (λ p. IsVarForcedTo g head.path p.0 p.1) pairs

-- so does each that is known
abbrev pub KnowsForced : Grown → Head → Option Known → Type 0
KnowsForced g head None = ⊤
KnowsForced g head (Some known) = AreForced g head known.pairs.items

-- a value has each kind that an expression of a node has
abbrev pub HasItsKinds : Grown → Head → Expr → Value → Type 0
HasItsKinds g head e v = (kind : Kind) → HasExprKind (kinds_at g head) e kind → HasKind v kind

-- each variable stands beside a value of its kind
abbrev pub AreOfKinds : (ℕ → Kind) → List (ℕ × Value) → Type 0
AreOfKinds kinds pairs = All (λ p. HasKind p.1 (kinds p.0)) pairs
