-- What the comparisons of a condition may compare.
use Rattle.std.specs.Prelude.{ℤ, ◌≡◌, List, Contains, Some, flat_map}
use Rattle.rn_value.specs.declared.value.Value.{Value}
use Rattle.rn_value.specs.declared.value.Value.TheVariants as Value
use Rattle.rn_model.specs.declared.expr.Cond.{Cond}
use Rattle.rn_model.specs.declared.expr.Simple.{Simple, fold-Simple}
use Rattle.rn_model.specs.Evaluation.{Env, worth}
use Rattle.rn_model.specs.Good.{Comparison, comparisons_in, comparisons_step}
use Rattle.rn_model.specs.ExpressionLaws.{OperandsAreFit}
use Rattle.rn_model.specs.AgreementLaws.{MayCompare}

-- both are whole numbers
abbrev pub AreNumbers : Value → Value → Type 0
AreNumbers v w = (x y : ℤ) × (v ≡ Value.Int x) × (w ≡ Value.Int y)

-- A fit comparison: the operands in both sides are fit, and where both sides have values, it may
-- compare these.
pub record IsFitComparison (env : Env) (c : Comparison) : Type 0 where
  pub left : OperandsAreFit env c.left
  pub right : OperandsAreFit env c.right
  pub values : (v w : Value) → worth c.left env ≡ Some v → worth c.right env ≡ Some w →
      MayCompare c.kind v w

-- each of these comparisons is fit
abbrev pub AreFit : Env → List Comparison → Type 0
AreFit env comparisons = (c : Comparison) → Contains comparisons c → IsFitComparison env c

-- Each comparison that stands in a condition is fit. So no operator meets another value than a
-- whole number, no tail is another value than a list, `==` and `!=` compare values of one kind, and
-- `<` and its like compare whole numbers.
abbrev pub ComparisonsAreFit : Env → Cond → Type 0
ComparisonsAreFit env cond = AreFit env (comparisons_in cond)

-- the comparisons in a comparison or a negation
abbrev pub comparisons_of : Simple → List Comparison
comparisons_of =
    fold-Simple (List Comparison) (List Comparison) comparisons_step
    (λ cond. flat_map (λ list. flat_map (λ c. c) list) cond.any)
