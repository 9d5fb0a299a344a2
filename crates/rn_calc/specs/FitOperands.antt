-- What an operand's value is, where it has one.
use Rattle.std.specs.Prelude.{ℤ, ◌≡◌, List, Option, Some, Contains}
use Rattle.rn_value.specs.declared.value.Value.{Value}
use Rattle.rn_value.specs.declared.value.Value.TheVariants as Value
use Rattle.rn_model.specs.declared.expr.Expr.{Expr}
use Rattle.rn_model.specs.Evaluation.{Env}
use Rattle.rn_model.specs.ExpressionLaws.{OperandsAreFit}

-- no value, or a whole number
abbrev pub IsNumberIfAny : Option Value → Type 0
IsNumberIfAny o = (v : Value) → o ≡ Some v → (n : ℤ) × (v ≡ Value.Int n)

-- no value, or a list
abbrev pub IsListIfAny : Option Value → Type 0
IsListIfAny o = (v : Value) → o ≡ Some v → (vs : List Value) × (v ≡ Value.List vs)

-- the operands in each of these expressions are fit
abbrev pub PartsAreFit : Env → List Expr → Type 0
PartsAreFit env parts = (e : Expr) → Contains parts e → OperandsAreFit env e
