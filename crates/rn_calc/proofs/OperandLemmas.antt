-- The operands in the parts of an expression are among those of the whole.
use Rattle.std.proofs.Common.{◌≡◌, List, [], ◌∷◌, ◌++◌, map, refl, sym, ap, ◌∙◌, subst, arith}
use Rattle.std.specs.Prelude.{Option, Contains, flat_map}
use Rattle.std.proofs.lemmas.List.Elements.{Contains-append_left, Contains-append_right}
use Rattle.rn_value.specs.declared.value.Value.{Value}
use Rattle.rn_model.specs.declared.expr.OpKind.{OpKind}
use Rattle.rn_model.specs.declared.expr.Expr.{Expr, roll-Expr, map-Expr, para-roll-Expr}
use Rattle.rn_model.specs.declared.expr.Expr.TheVariants as E
use Rattle.rn_model.specs.declared.expr.Expr.TheOpen as O
use Rattle.rn_model.specs.Evaluation.{Env, worth}
use Rattle.rn_model.specs.ExpressionLaws.{Operand, number, tail, operands_in, operands_step, IsFit}
use Rattle.rn_model.specs.ExpressionLaws.{OperandsAreFit}
use Rattle.rn_model.proofs.AskedValues.{contained_flat}
use Rattle.rn_calc.specs.FitOperands.{IsNumberIfAny, IsListIfAny, PartsAreFit}

abbrev beside : Expr → Expr × List Operand
beside e = (e, operands_in e)

abbrev in_parts : List Expr → List Operand
in_parts parts = flat_map (λ p. p.1) (map beside parts)

mapped : (parts : List Expr) → in_parts parts ≡ flat_map operands_in parts
mapped [] = refl
mapped (part ∷ parts) = ap (λ os. operands_in part ++ os) (mapped parts)

module _ (env : Env) where
  -- what was told of an expression that was found in another is a number where it must be
  pub number_of : (told : Option Value) (e part : Expr) → told ≡ worth e env → e ≡ part →
      IsNumberIfAny (worth part env) → IsNumberIfAny told
  number_of told e part value is fit =
      subst IsNumberIfAny (sym (value ∙ ap (λ e. worth e env) is)) fit

  abbrev Fit : List Operand → Type 0
  Fit os = (o : Operand) → Contains os o → IsFit env o

  -- what an expression of this layer has is fit
  at_layer : (e : Expr) (x : O.Expr-F Expr) → roll-Expr x ≡ e → OperandsAreFit env e →
      Fit (operands_step (map-Expr Expr (Expr × List Operand) beside x))
  at_layer e x is fit =
      subst Fit (para-roll-Expr (List Operand) operands_step x)
      (subst (λ f. OperandsAreFit env f) (sym is) fit)

  first : (os rest : List Operand) → Fit (os ++ rest) → Fit os
  first os rest fit o there = fit o (Contains-append_left os rest o there)

  last : (os rest : List Operand) → Fit (os ++ rest) → Fit rest
  last os rest fit o there = fit o (Contains-append_right os rest o there)

  each_part : (parts : List Expr) → Fit (in_parts parts) → PartsAreFit env parts
  each_part parts fit e has o there =
      fit o (subst (λ os. Contains os o) (sym (mapped parts))
      (contained_flat operands_in parts e o has there))

  pub tuple_parts : (parts : List Expr) → OperandsAreFit env (E.Tuple parts) →
      PartsAreFit env parts
  tuple_parts parts fit =
      each_part parts (at_layer (E.Tuple parts) (O.Tuple parts) (E.rolls-Tuple parts) fit)

  pub list_parts : (parts : List Expr) → OperandsAreFit env (E.List parts) →
      PartsAreFit env parts
  list_parts parts fit =
      each_part parts (at_layer (E.List parts) (O.List parts) (E.rolls-List parts) fit)

  cons : (parts : List Expr) (rest : Expr) → OperandsAreFit env (E.Cons parts rest) →
      Fit (tail rest ∷ in_parts parts ++ operands_in rest)
  cons parts rest fit =
      at_layer (E.Cons parts rest) (O.Cons parts rest) (E.rolls-Cons parts rest) fit

  pub cons_parts : (parts : List Expr) (rest : Expr) → OperandsAreFit env (E.Cons parts rest) →
      PartsAreFit env parts
  cons_parts parts rest fit =
      each_part parts (first (in_parts parts) (operands_in rest)
      (last (tail rest ∷ []) (in_parts parts ++ operands_in rest) (cons parts rest fit)))

  pub cons_tail : (parts : List Expr) (rest : Expr) → OperandsAreFit env (E.Cons parts rest) →
      OperandsAreFit env rest
  cons_tail parts rest fit =
      last (in_parts parts) (operands_in rest)
      (last (tail rest ∷ []) (in_parts parts ++ operands_in rest) (cons parts rest fit))

  pub cons_list : (parts : List Expr) (rest : Expr) → OperandsAreFit env (E.Cons parts rest) →
      IsListIfAny (worth rest env)
  cons_list parts rest fit = cons parts rest fit (tail rest) (0, omega arith, refl)

  neg : (part : Expr) → OperandsAreFit env (E.Neg part) → Fit (number part ∷ operands_in part)
  neg part fit = at_layer (E.Neg part) (O.Neg part) (E.rolls-Neg part) fit

  pub neg_part : (part : Expr) → OperandsAreFit env (E.Neg part) → OperandsAreFit env part
  neg_part part fit = last (number part ∷ []) (operands_in part) (neg part fit)

  pub neg_number : (part : Expr) → OperandsAreFit env (E.Neg part) →
      IsNumberIfAny (worth part env)
  neg_number part fit = neg part fit (number part) (0, omega arith, refl)

  op : (kind : OpKind) (a b : Expr) → OperandsAreFit env (E.Op kind a b) →
      Fit (number a ∷ number b ∷ operands_in a ++ operands_in b)
  op kind a b fit = at_layer (E.Op kind a b) (O.Op kind a b) (E.rolls-Op kind a b) fit

  pub op_left : (kind : OpKind) (a b : Expr) → OperandsAreFit env (E.Op kind a b) →
      OperandsAreFit env a
  op_left kind a b fit =
      first (operands_in a) (operands_in b)
      (last (number a ∷ number b ∷ []) (operands_in a ++ operands_in b) (op kind a b fit))

  pub op_right : (kind : OpKind) (a b : Expr) → OperandsAreFit env (E.Op kind a b) →
      OperandsAreFit env b
  op_right kind a b fit =
      last (operands_in a) (operands_in b)
      (last (number a ∷ number b ∷ []) (operands_in a ++ operands_in b) (op kind a b fit))

  pub op_left_number : (kind : OpKind) (a b : Expr) → OperandsAreFit env (E.Op kind a b) →
      IsNumberIfAny (worth a env)
  op_left_number kind a b fit = op kind a b fit (number a) (0, omega arith, refl)

  pub op_right_number : (kind : OpKind) (a b : Expr) → OperandsAreFit env (E.Op kind a b) →
      IsNumberIfAny (worth b env)
  op_right_number kind a b fit = op kind a b fit (number b) (1, omega arith, refl)
