-- Laws over the values of expressions and the truth of conditions. Each is the contract of a
-- function that does nothing.
use Rattle.std.specs.Prelude.{ℕ, ℤ, ◌≡◌, ◌⊎◌, ◌↔◌, Bool, false, List, [], ◌∷◌, ◌++◌, Some}
use Rattle.std.specs.Prelude.{map, option_map, flat_map, Contains, All}
use Rattle.rn_value.specs.Kinds.{HasKind}
use Rattle.rn_value.specs.declared.value.InstRef.{InstRef}
use Rattle.rn_value.specs.declared.value.Kind.{Kind}
use Rattle.rn_value.specs.declared.value.Value.{Value}
use Rattle.rn_value.specs.declared.value.Value.TheVariants as Value
use Rattle.rn_model.specs.declared.expr.Expr.{Expr, para-Expr}
use Rattle.rn_model.specs.declared.expr.Expr.TheOpen as E
use Rattle.rn_model.specs.declared.expr.Cond.{Cond}
use Rattle.rn_model.specs.declared.system.Action.{Action}
use Rattle.rn_model.specs.Lists.{value_beside}
use Rattle.rn_model.specs.Systems.{vars_in}
use Rattle.rn_model.specs.Kinds.{HasExprKind, holds_step}
use Rattle.rn_model.specs.Evaluation.{Env, worth, truth}
use Rattle.rn_model.specs.Firing.{renamed_value, Acts, after_actions}
use Rattle.rn_model.specs.Good.{comparisons_in, guard_exprs, CanCompare, IsGoodAction}

-- Two readings under which an expression is the same: `this` is, each variable that occurs in it
-- has the same value or none, and where `step()` stands in it, the step is the same too.
pub record ReadSame (e : Expr) (env : Env) (other : Env) : Type 0 where
  pub this : env.this ≡ other.this
  pub vars : (x : ℕ) → Contains (vars_in e) x →
      value_beside env.pairs x ≡ value_beside other.pairs x
  pub step : (holds_step e ≡ false) ⊎ (env.step ≡ other.step)

-- the value of an expression depends on nothing else
abbrev pub ValuesLookUp : Type 0
ValuesLookUp = (e : Expr) (env other : Env) → ReadSame e env other → worth e env ≡ worth e other

-- nor does the truth of a condition, by all sides of its comparisons
abbrev pub TruthsLookUp : Type 0
TruthsLookUp = (cond : Cond) (env other : Env) →
    ((e : Expr) → Contains (guard_exprs cond) e → ReadSame e env other) →
    truth cond env ≡ truth cond other

-- a reading with each instance renamed
abbrev pub renamed_env : (InstRef → InstRef) → Env → Env
renamed_env name env = record {
  this = name env.this;
  step = env.step;
  pairs = map (λ p. (p.0, renamed_value p.1 name)) env.pairs;
}

-- where instances are renamed, an expression's value is its value with its instances renamed
abbrev pub ValuesAreRenamed : Type 0
ValuesAreRenamed = (name : InstRef → InstRef) (e : Expr) (env : Env) →
    worth e (renamed_env name env) ≡ option_map (λ v. renamed_value v name) (worth e env)

-- and where a renaming can be undone, conditions are as true as before
abbrev pub TruthsStayRenamed : Type 0
TruthsStayRenamed = (name back : InstRef → InstRef) (cond : Cond) (env : Env) →
    renamed_env back (renamed_env name env) ≡ env →
    truth cond (renamed_env name env) ≡ truth cond env

-- each variable that has a value has one of its kind
abbrev pub HaveKinds : (ℕ → Kind) → Env → Type 0
HaveKinds kinds env = (x : ℕ) (v : Value) → value_beside env.pairs x ≡ Some v → HasKind v (kinds x)

-- there an expression's value, where it has one, has each kind of the expression
abbrev pub ValuesHaveKinds : Type 0
ValuesHaveKinds = (kinds : ℕ → Kind) (env : Env) (e : Expr) (kind : Kind) (v : Value) →
    HaveKinds kinds env → HasExprKind kinds e kind → worth e env ≡ Some v → HasKind v kind

-- What an expression computes with: what stands beside an operator, which must be a whole number,
-- and the tail of a list, which must be a list.
pub data Operand : Type 0 where
  number : Expr → Operand
  tail : Expr → Operand

-- the operands in one expression, with each of its parts beside those in that part
abbrev pub operands_step : E.Expr-F (Expr × List Operand) → List Operand
operands_step (E.Tuple parts) = flat_map (λ p. p.1) parts
operands_step (E.List parts) = flat_map (λ p. p.1) parts
operands_step (E.Cons parts rest) = tail rest.0 ∷ flat_map (λ p. p.1) parts ++ rest.1
operands_step (E.Neg part) = number part.0 ∷ part.1
operands_step (E.Op kind a b) = number a.0 ∷ number b.0 ∷ a.1 ++ b.1
operands_step _ = []

-- all operands in an expression
abbrev pub operands_in : Expr → List Operand
operands_in = para-Expr (List Operand) operands_step

-- an operand has no value, or one that it must be
abbrev pub IsFit : Env → Operand → Type 0
IsFit env (number e) = (v : Value) → worth e env ≡ Some v → (n : ℤ) × (v ≡ Value.Int n)
IsFit env (tail e) = (v : Value) → worth e env ≡ Some v → (vs : List Value) × (v ≡ Value.List vs)

-- each operand in an expression is fit
abbrev pub OperandsAreFit : Env → Expr → Type 0
OperandsAreFit env e = (o : Operand) → Contains (operands_in e) o → IsFit env o

-- in an expression with a kind, whose variables have values of their kinds, operands are fit
abbrev pub KindsFitOperands : Type 0
KindsFitOperands = (kinds : ℕ → Kind) (env : Env) (e : Expr) (kind : Kind) →
    HaveKinds kinds env → HasExprKind kinds e kind → OperandsAreFit env e

-- Conditions whose comparisons may compare what they do are defined exactly where each side of
-- each comparison has a value.
abbrev pub TruthsAreDefined : Type 0
TruthsAreDefined = (kinds : ℕ → Kind) (env : Env) (cond : Cond) → HaveKinds kinds env →
    All (λ c. CanCompare kinds c c.kind) (comparisons_in cond) →
    ((answer : Bool) × (truth cond env ≡ Some answer))
    ↔ ((e : Expr) → Contains (guard_exprs cond) e → (v : Value) × (worth e env ≡ Some v))

-- good actions leave each variable a value of its kind
abbrev pub ActionsKeepKinds : Type 0
ActionsKeepKinds = (kinds : ℕ → Kind) (actions : List Action) (before after : Acts) →
    HaveKinds kinds before.env → All (IsGoodAction kinds) actions →
    after_actions actions before ≡ Some after → HaveKinds kinds after.env
