-- The value of an expression depends on what its variables look up to, `this` and the step.
use Rattle.std.proofs.Common.{◌≡◌, ℕ, pos, ◌⊎◌, Bool, true, false, ◌||◌, List, [], ◌∷◌, ◌++◌, map}
use Rattle.std.proofs.Common.{refl, sym, ap, ◌∙◌, subst, inl, inr, arith}
use Rattle.std.specs.Prelude.{Option, Some, option_map, option_and_then, Contains}
use Rattle.std.specs.List.{list_any, concat, AllByRecursion}
use Rattle.std.proofs.lemmas.List.Elements.{Contains-append_left, Contains-append_right}
use Rattle.rn_value.specs.declared.value.Value.{Value}
use Rattle.rn_value.specs.declared.value.Value.TheVariants as Value
use Rattle.rn_model.specs.declared.expr.OpKind.{OpKind}
use Rattle.rn_model.specs.declared.expr.Expr.{Expr, out-Expr, map-Expr, fold_out-Expr}
use Rattle.rn_model.specs.declared.expr.Expr.TheVariants as E
use Rattle.rn_model.specs.Lists.{value_beside}
use Rattle.rn_model.specs.Systems.{vars_in}
use Rattle.rn_model.specs.Kinds.{holds_step, step_in_step}
use Rattle.rn_model.specs.Evaluation.{Env, worth, worths, list_onto, op_value, neg_value}
use Rattle.rn_model.specs.ExpressionLaws.{ValuesLookUp}
use Rattle.rn_model.proofs.DerivationLemmas.{vars_in-Var, vars_in-Tuple, vars_in-List, vars_in-Cons}
use Rattle.rn_model.proofs.DerivationLemmas.{vars_in-Neg, vars_in-Op}
use Rattle.rn_model.proofs.EvaluationLemmas.{worth-Int, worth-Text, worth-Var, worth-Tuple}
use Rattle.rn_model.proofs.EvaluationLemmas.{worth-List, worth-Cons, worth-Neg, worth-Op}
use Rattle.rn_model.proofs.EvaluationLemmas.{worth-This, worth-Step}
use Rattle.rn_model.proofs.FormsOfExpressions.{by_form}

-- The equations of `holds_step`.
out : (e : Expr) → holds_step e ≡ step_in_step (map-Expr Expr Bool holds_step (out-Expr e))
out e = fold_out-Expr Bool step_in_step e

holds_step-Step : holds_step E.Step ≡ true
holds_step-Step = out E.Step ∙ rw E.outs-Step

holds_step-Tuple : (parts : List Expr) →
    holds_step (E.Tuple parts) ≡ list_any (λ h. h) (map holds_step parts)
holds_step-Tuple parts = out (E.Tuple parts) ∙ rw (E.outs-Tuple parts)

holds_step-List : (parts : List Expr) →
    holds_step (E.List parts) ≡ list_any (λ h. h) (map holds_step parts)
holds_step-List parts = out (E.List parts) ∙ rw (E.outs-List parts)

holds_step-Cons : (parts : List Expr) (tail : Expr) →
    holds_step (E.Cons parts tail) ≡ list_any (λ h. h) (map holds_step parts) || holds_step tail
holds_step-Cons parts tail = out (E.Cons parts tail) ∙ rw (E.outs-Cons parts tail)

holds_step-Neg : (part : Expr) → holds_step (E.Neg part) ≡ holds_step part
holds_step-Neg part = out (E.Neg part) ∙ rw (E.outs-Neg part)

holds_step-Op : (kind : OpKind) (a b : Expr) →
    holds_step (E.Op kind a b) ≡ holds_step a || holds_step b
holds_step-Op kind a b = out (E.Op kind a b) ∙ rw (E.outs-Op kind a b)

module _ (env other : Env) (this : env.this ≡ other.this) where
  -- these variables look up to the same values
  abbrev LookSame : List ℕ → Type 0
  LookSame xs = (x : ℕ) → Contains xs x → value_beside env.pairs x ≡ value_beside other.pairs x

  -- no step is asked for, or it is the same
  abbrev StepSame : Bool → Type 0
  StepSame asks = (asks ≡ false) ⊎ (env.step ≡ other.step)

  abbrev IsSame : Expr → Type 0
  IsSame e = LookSame (vars_in e) → StepSame (holds_step e) → worth e env ≡ worth e other

  look_left : (xs ys : List ℕ) → LookSame (xs ++ ys) → LookSame xs
  look_left xs ys look x there = look x (Contains-append_left xs ys x there)

  look_right : (xs ys : List ℕ) → LookSame (xs ++ ys) → LookSame ys
  look_right xs ys look x there = look x (Contains-append_right xs ys x there)

  step_left : (a b : Bool) → StepSame (a || b) → StepSame a
  step_left true b (inl none) = absurd (let no : ⊥ = cc in no)
  step_left false b (inl none) = inl refl
  step_left a b (inr same) = inr same

  step_right : (a b : Bool) → StepSame (a || b) → StepSame b
  step_right true b (inl none) = absurd (let no : ⊥ = cc in no)
  step_right false b (inl none) = inl none
  step_right a b (inr same) = inr same

  abbrev join : Option (List Value) → Option Value → Option (List Value)
  join rest o = option_and_then (λ v. option_map (λ vs. v ∷ vs) rest) o

  parts_same : (parts : List Expr) → AllByRecursion IsSame parts →
      LookSame (concat (map vars_in parts)) →
      StepSame (list_any (λ h. h) (map holds_step parts)) →
      worths (map worth parts) env ≡ worths (map worth parts) other
  parts_same [] is look step = refl
  parts_same (part ∷ parts) (is, others) look step =
      let rest_vars = concat (map vars_in parts) in
      let rest_steps = list_any (λ h. h) (map holds_step parts) in
      let first = is (look_left (vars_in part) rest_vars look)
      (step_left (holds_step part) rest_steps step) in
      let rest = parts_same parts others (look_right (vars_in part) rest_vars look)
      (step_right (holds_step part) rest_steps step) in
      ap (join (worths (map worth parts) env)) first
      ∙ ap (λ vs. join vs (worth part other)) rest

  tuple_same : (parts : List Expr) → AllByRecursion IsSame parts → IsSame (E.Tuple parts)
  tuple_same parts is look step =
      let same = parts_same parts is (subst LookSame (vars_in-Tuple parts) look)
      (subst StepSame (holds_step-Tuple parts) step) in
      worth-Tuple parts env ∙ ap (option_map (λ vs. Value.Tuple vs)) same
      ∙ sym (worth-Tuple parts other)

  list_same : (parts : List Expr) → AllByRecursion IsSame parts → IsSame (E.List parts)
  list_same parts is look step =
      let same = parts_same parts is (subst LookSame (vars_in-List parts) look)
      (subst StepSame (holds_step-List parts) step) in
      worth-List parts env ∙ ap (option_map (λ vs. Value.List vs)) same
      ∙ sym (worth-List parts other)

  abbrev put_onto : Option Value → Option (List Value) → Option Value
  put_onto rest vs = option_and_then (λ vs. option_and_then (list_onto vs) rest) vs

  cons_same : (parts : List Expr) (tail : Expr) → AllByRecursion IsSame parts → IsSame tail →
      IsSame (E.Cons parts tail)
  cons_same parts tail is last look step =
      let vars = concat (map vars_in parts) in
      let steps = list_any (λ h. h) (map holds_step parts) in
      let look_at : LookSame (vars ++ vars_in tail) =
      subst LookSame (vars_in-Cons parts tail) look in
      let step_at : StepSame (steps || holds_step tail) =
      subst StepSame (holds_step-Cons parts tail) step in
      let first = parts_same parts is (look_left vars (vars_in tail) look_at)
      (step_left steps (holds_step tail) step_at) in
      let rest = last (look_right vars (vars_in tail) look_at)
      (step_right steps (holds_step tail) step_at) in
      worth-Cons parts tail env
      ∙ ap (put_onto (worth tail env)) first
      ∙ ap (λ t. put_onto t (worths (map worth parts) other)) rest
      ∙ sym (worth-Cons parts tail other)

  neg_same : (part : Expr) → IsSame part → IsSame (E.Neg part)
  neg_same part is look step =
      let same = is (subst LookSame (vars_in-Neg part) look)
      (subst StepSame (holds_step-Neg part) step) in
      worth-Neg part env ∙ ap neg_value same ∙ sym (worth-Neg part other)

  op_same : (kind : OpKind) (a b : Expr) → IsSame a → IsSame b → IsSame (E.Op kind a b)
  op_same kind a b left right look step =
      let look_at : LookSame (vars_in a ++ vars_in b) =
      subst LookSame (vars_in-Op kind a b) look in
      let step_at : StepSame (holds_step a || holds_step b) =
      subst StepSame (holds_step-Op kind a b) step in
      let first = left (look_left (vars_in a) (vars_in b) look_at)
      (step_left (holds_step a) (holds_step b) step_at) in
      let second = right (look_right (vars_in a) (vars_in b) look_at)
      (step_right (holds_step a) (holds_step b) step_at) in
      worth-Op kind a b env
      ∙ ap (λ x. op_value kind x (worth b env)) first
      ∙ ap (op_value kind (worth a other)) second
      ∙ sym (worth-Op kind a b other)

  var_same : (x : ℕ) → IsSame (E.Var x)
  var_same x look step =
      let there = subst (λ xs. Contains xs x) (sym (vars_in-Var x)) (0, omega arith, refl) in
      let here = look x there in
      worth-Var x env ∙ here ∙ sym (worth-Var x other)

  step_same : IsSame E.Step
  step_same look (inl none) =
      let both : true ≡ false = sym holds_step-Step ∙ none in absurd (let no : ⊥ = cc in no)
  step_same look (inr same) =
      worth-Step env ∙ ap (option_map (λ n. Value.Int (pos n))) same ∙ sym (worth-Step other)

  pub reads_same : (e : Expr) → IsSame e
  reads_same = by_form IsSame (record {
    int = λ n look step. worth-Int n env ∙ sym (worth-Int n other);
    text = λ s look step. worth-Text s env ∙ sym (worth-Text s other);
    var = var_same;
    this = λ look step.
        worth-This env ∙ ap (λ i. Some (Value.Inst i)) this ∙ sym (worth-This other);
    step = step_same;
    tuple = tuple_same;
    list = list_same;
    cons = cons_same;
    neg = neg_same;
    op = op_same;
  })

-- an expression has one value under two readings that are the same for it
pub values_look_up : ValuesLookUp
values_look_up e env other same = reads_same env other same.this e same.vars same.step
