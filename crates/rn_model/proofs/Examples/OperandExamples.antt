-- Which operands some expressions have, and which of them are fit.
use Rattle.std.proofs.Common.{◌≡◌, ℕ, pos, List, [], ◌∷◌, map, refl, sym, ap, ◌∙◌, subst, arith}
use Rattle.std.specs.Prelude.{Some, None, Contains, codes, flat_map, ◌++◌}
use Rattle.rn_value.specs.declared.value.InstRef.TheVariants.{Old}
use Rattle.rn_value.specs.declared.value.Value.{Value, out-Value}
use Rattle.rn_value.specs.declared.value.Value.TheVariants as Value
use Rattle.rn_model.specs.declared.expr.OpKind.{OpKind}
use Rattle.rn_model.specs.declared.expr.OpKind.TheVariants.{Add}
use Rattle.rn_model.specs.declared.expr.Expr.{Expr, roll-Expr, map-Expr, para-roll-Expr}
use Rattle.rn_model.specs.declared.expr.Expr.TheVariants as E
use Rattle.rn_model.specs.declared.expr.Expr.TheOpen as O
use Rattle.rn_model.specs.Evaluation.{Env, worth}
use Rattle.rn_model.specs.ExpressionLaws.{Operand, number, tail, operands_in, operands_step, IsFit}
use Rattle.rn_model.specs.ExpressionLaws.{OperandsAreFit}
use Rattle.rn_model.proofs.EvaluationLemmas.{worth_rules}

abbrev beside : Expr → Expr × List Operand
beside e = (e, operands_in e)

rolled : (x : O.Expr-F Expr) →
    operands_in (roll-Expr x) ≡ operands_step (map-Expr Expr (Expr × List Operand) beside x)
rolled x = para-roll-Expr (List Operand) operands_step x

operands_in-Int : (n : ℕ) → operands_in (E.Int (pos n)) ≡ []
operands_in-Int n = ap operands_in (sym (E.rolls-Int (pos n))) ∙ rolled (O.Int (pos n))

operands_in-Var : (x : ℕ) → operands_in (E.Var x) ≡ []
operands_in-Var x = ap operands_in (sym (E.rolls-Var x)) ∙ rolled (O.Var x)

operands_in-Op : (kind : OpKind) (a b : Expr) →
    operands_in (E.Op kind a b) ≡ number a ∷ number b ∷ operands_in a ++ operands_in b
operands_in-Op kind a b = ap operands_in (sym (E.rolls-Op kind a b)) ∙ rolled (O.Op kind a b)

operands_in-Cons : (parts : List Expr) (rest : Expr) →
    operands_in (E.Cons parts rest)
    ≡ tail rest ∷ flat_map (λ p. p.1) (map beside parts) ++ operands_in rest
operands_in-Cons parts rest =
    ap operands_in (sym (E.rolls-Cons parts rest)) ∙ rolled (O.Cons parts rest)

abbrev sum : Expr
sum = E.Op Add (E.Var 0) (E.Int (pos 2))

-- {1, x + 2 : y}
operands_of_list :
    operands_in (E.Cons (E.Int (pos 1) ∷ sum ∷ []) (E.Var 1))
    ≡ tail (E.Var 1) ∷ number (E.Var 0) ∷ number (E.Int (pos 2)) ∷ []
operands_of_list = simp (operands_in-Cons, operands_in-Op, operands_in-Int, operands_in-Var)

-- where x has this value
abbrev with_x : Value → Env
with_x v = record { this = Old 1; step = None; pairs = (0, v) ∷ [] }

x_is : (v : Value) → worth (E.Var 0) (with_x v) ≡ Some v
x_is v = simp worth_rules

-- a number is fit
number_is_fit : IsFit (with_x (Value.Int (pos 5))) (number (E.Var 0))
number_is_fit v is =
    let same : Value.Int (pos 5) ≡ v = let read = x_is (Value.Int (pos 5)) in cc in
    (pos 5, sym same)

-- and a text isn't
abbrev text : Value
text = Value.Text (codes "a")

text_is_unfit : ¬ OperandsAreFit (with_x text) sum
text_is_unfit fit =
    let there : Contains (operands_in sum) (number (E.Var 0)) =
    subst (λ os. Contains os (number (E.Var 0)))
    (sym (operands_in-Op Add (E.Var 0) (E.Int (pos 2))))
    (0, omega arith, refl) in
    let found = fit (number (E.Var 0)) there text (x_is text) in
    let opened = sym (Value.outs-Text (codes "a")) ∙ ap out-Value found.1
    ∙ Value.outs-Int found.0 in
    let no : ⊥ = cc in no
