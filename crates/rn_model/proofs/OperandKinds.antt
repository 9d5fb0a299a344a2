-- Kinds of operands, and of what actions set.
use Rattle.std.proofs.Common.{◌≡◌, ℕ, ℤ, Bool, true, false, List, [], ◌∷◌, map, refl}
use Rattle.std.proofs.Common.{sym, ap, ◌∙◌, subst}
use Rattle.std.specs.Prelude.{Some, flat_map, Contains, nat_eq}
use Rattle.std.specs.Prelude.{if◌then◌else◌}
use Rattle.std.specs.List.{list_all, AllByRecursion}
use Rattle.std.proofs.lemmas.Bool.{eqb-true}
use Rattle.std.proofs.lemmas.Option.{same_Some, option_and_then_some}
use Rattle.std.proofs.lemmas.List.Elements.{All-contains, All-from_recursion, recursion_from_All}
use Rattle.rn_value.specs.Kinds.{HasKind, value_has_kind, kind_step, fit_all}
use Rattle.rn_value.specs.declared.value.Kind.{Kind, out-Kind}
use Rattle.rn_value.specs.declared.value.Kind.TheVariants as Kind
use Rattle.rn_value.specs.declared.value.Kind.TheOpen as K
use Rattle.rn_value.specs.declared.value.Value.{Value, out-Value, roll-Value, map-Value}
use Rattle.rn_value.specs.declared.value.Value.{fold_out-Value}
use Rattle.rn_value.specs.declared.value.Value.{roll-out-Value}
use Rattle.rn_value.specs.declared.value.Value.TheVariants as Value
use Rattle.rn_value.specs.declared.value.Value.TheOpen as V
use Rattle.rn_model.specs.declared.expr.OpKind.{OpKind}
use Rattle.rn_model.specs.declared.expr.Expr.{Expr, out-Expr, roll-Expr, map-Expr, fold_out-Expr}
use Rattle.rn_model.specs.declared.expr.Expr.{para-roll-Expr}
use Rattle.rn_model.specs.declared.expr.Expr.TheVariants as E
use Rattle.rn_model.specs.declared.expr.Expr.TheOpen as O
use Rattle.rn_model.specs.declared.system.Action.{Action}
use Rattle.rn_model.specs.declared.system.Action.TheVariants.{Set, Print}
use Rattle.rn_model.specs.Lists.{value_beside}
use Rattle.rn_model.specs.Kinds.{expr_has_kind, expr_or_var_step, expr_kind_step, HasExprKind}
use Rattle.rn_model.specs.Evaluation.{Env, worth}
use Rattle.rn_model.specs.Demands.{elements}
use Rattle.rn_model.specs.Firing.{Acts, after_actions, with_set, with_out}
use Rattle.rn_model.specs.Good.{IsGoodAction}
use Rattle.rn_model.specs.ExpressionLaws.{HaveKinds, ValuesHaveKinds, Operand, number, tail}
use Rattle.rn_model.specs.ExpressionLaws.{operands_in, operands_step, IsFit, KindsFitOperands}
use Rattle.rn_model.specs.ExpressionLaws.{ActionsKeepKinds}
use Rattle.rn_model.proofs.EachElement.{each_append}
use Rattle.rn_items.proofs.Bools.{both_true}
use Rattle.rn_model.proofs.HoleValues.{list_of_kind}
use Rattle.rn_model.proofs.KindsOfValues.{worth_has_kind}
use Rattle.rn_model.proofs.FormsOfExpressions.{by_form}

-- where the variables' values have their kinds, an expression's value has each kind of it
pub values_have_kinds : ValuesHaveKinds
values_have_kinds kinds env e kind v have has is = worth_has_kind kinds env have e kind has v is

-- a value of the kind of whole numbers is one
int_layer : (x : V.Value-F Value) →
    kind_step (map-Value Value (Kind → Bool) value_has_kind x) K.Int ≡ true →
    (n : ℤ) × (roll-Value x ≡ Value.Int n)
int_layer (V.Int n) e = (n, Value.rolls-Int n)
int_layer (V.Text s) e = absurd (let no : ⊥ = cc in no)
int_layer (V.Tuple vs) e = absurd (let no : ⊥ = cc in no)
int_layer (V.List vs) e = absurd (let no : ⊥ = cc in no)
int_layer (V.Inst i) e = absurd (let no : ⊥ = cc in no)

pub int_of_kind : (v : Value) → HasKind v Kind.Int → (n : ℤ) × (v ≡ Value.Int n)
int_of_kind v has =
    let layer = map-Value Value (Kind → Bool) value_has_kind (out-Value v) in
    let step = λ (v : V.Value-F (Kind → Bool)) (k : Kind). kind_step v (out-Kind k) in
    let opened : value_has_kind v Kind.Int ≡ kind_step layer (out-Kind Kind.Int) =
    ap (λ f. f Kind.Int) (fold_out-Value (Kind → Bool) step v) in
    let found = int_layer (out-Value v)
    (sym (opened ∙ ap (kind_step layer) Kind.outs-Int) ∙ has) in
    (found.0, sym (roll-out-Value v) ∙ found.1)

module _ (kinds : ℕ → Kind) where
  -- an expression has some kind
  abbrev pub HasSome : Expr → Type 0
  HasSome e = (kind : Kind) × HasExprKind kinds e kind

  -- the kind that an operand must have
  abbrev Must : Operand → Type 0
  Must (number e) = HasExprKind kinds e Kind.Int
  Must (tail e) = (kind : Kind) × HasExprKind kinds e (Kind.List kind)

  abbrev OperandsHave : Expr → Type 0
  OperandsHave e = HasSome e → AllByRecursion Must (operands_in e)

  abbrev kinds_of : List Expr → List ((ℕ → Kind) → Kind → Bool)
  kinds_of parts = map expr_has_kind parts

  -- one expression at a kind, opened
  pub opened : (e : Expr) (kind : Kind) →
      expr_has_kind e kinds kind
      ≡ expr_or_var_step (map-Expr Expr ((ℕ → Kind) → Kind → Bool) expr_has_kind (out-Expr e))
      kinds kind
  opened e kind =
      ap (λ f. f kinds kind) (fold_out-Expr ((ℕ → Kind) → Kind → Bool) expr_or_var_step e)

  tuple_parts : (parts : List Expr) (ks : List Kind) →
      fit_all (map (λ test. test kinds) (kinds_of parts)) ks ≡ true → AllByRecursion HasSome parts
  tuple_parts [] ks e = tt
  tuple_parts (part ∷ parts) [] e = absurd (let no : ⊥ = cc in no)
  tuple_parts (part ∷ parts) (k ∷ ks) e =
      let both = both_true (expr_has_kind part kinds k)
      (fit_all (map (λ test. test kinds) (kinds_of parts)) ks) e in
      ((k, both.0), tuple_parts parts ks both.1)

  list_parts : (parts : List Expr) (k : Kind) →
      list_all (λ test. test kinds k) (kinds_of parts) ≡ true → AllByRecursion HasSome parts
  list_parts [] k e = tt
  list_parts (part ∷ parts) k e =
      let both = both_true (expr_has_kind part kinds k)
      (list_all (λ test. test kinds k) (kinds_of parts)) e in
      ((k, both.0), list_parts parts k both.1)

  pub tuple_at : (parts : List Expr) (z : K.Kind-F Kind) →
      expr_kind_step (O.Tuple (kinds_of parts)) kinds z ≡ true → AllByRecursion HasSome parts
  tuple_at parts (K.Tuple ks) e = tuple_parts parts ks e
  tuple_at parts _ e = absurd (let no : ⊥ = cc in no)

  pub list_at : (parts : List Expr) (z : K.Kind-F Kind) →
      expr_kind_step (O.List (kinds_of parts)) kinds z ≡ true → AllByRecursion HasSome parts
  list_at parts (K.List k) e = list_parts parts k e
  list_at parts _ e = absurd (let no : ⊥ = cc in no)

  pub cons_at : (parts : List Expr) (rest : Expr) (z : K.Kind-F Kind) →
      expr_kind_step (O.Cons (kinds_of parts) (expr_has_kind rest)) kinds z ≡ true →
      AllByRecursion HasSome parts × ((k : Kind) × HasExprKind kinds rest (Kind.List k))
  cons_at parts rest (K.List k) e =
      let both = both_true (list_all (λ test. test kinds k) (kinds_of parts))
      (expr_has_kind rest kinds (Kind.List k)) e in
      (list_parts parts k both.0, (k, both.1))
  cons_at parts rest _ e = absurd (let no : ⊥ = cc in no)

  neg_at : (part : Expr) (z : K.Kind-F Kind) →
      expr_kind_step (O.Neg (expr_has_kind part)) kinds z ≡ true → HasExprKind kinds part Kind.Int
  neg_at part K.Int e = e
  neg_at part _ e = absurd (let no : ⊥ = cc in no)

  op_at : (kind : OpKind) (a b : Expr) (z : K.Kind-F Kind) →
      expr_kind_step (O.Op kind (expr_has_kind a) (expr_has_kind b)) kinds z ≡ true →
      HasExprKind kinds a Kind.Int × HasExprKind kinds b Kind.Int
  op_at kind a b K.Int e = both_true (expr_has_kind a kinds Kind.Int)
      (expr_has_kind b kinds Kind.Int) e
  op_at kind a b _ e = absurd (let no : ⊥ = cc in no)

  -- each expression beside its operands
  abbrev beside : Expr → Expr × List Operand
  beside e = (e, operands_in e)

  rolled : (x : O.Expr-F Expr) →
      operands_in (roll-Expr x) ≡ operands_step (map-Expr Expr (Expr × List Operand) beside x)
  rolled x = para-roll-Expr (List Operand) operands_step x

  abbrev in_parts : List Expr → List Operand
  in_parts parts = flat_map (λ p. p.1) (map beside parts)

  parts_have : (parts : List Expr) → AllByRecursion OperandsHave parts →
      AllByRecursion HasSome parts → AllByRecursion Must (in_parts parts)
  parts_have [] have each = tt
  parts_have (part ∷ parts) (have, others) (here, later) =
      each_append Must (operands_in part) (in_parts parts) (have here)
      (parts_have parts others later)

  -- an expression that is rolled of a layer has the operands of the layer
  at_layer : (e : Expr) (x : O.Expr-F Expr) → roll-Expr x ≡ e →
      AllByRecursion Must (operands_step (map-Expr Expr (Expr × List Operand) beside x)) →
      AllByRecursion Must (operands_in e)
  at_layer e x is all =
      subst (λ f. AllByRecursion Must (operands_in f)) is
      (subst (AllByRecursion Must) (sym (rolled x)) all)

  tuple_have : (parts : List Expr) → AllByRecursion OperandsHave parts →
      OperandsHave (E.Tuple parts)
  tuple_have parts have (kind, has) =
      let step = sym (opened (E.Tuple parts) kind ∙ rw (E.outs-Tuple parts)) ∙ has in
      at_layer (E.Tuple parts) (O.Tuple parts) (E.rolls-Tuple parts)
      (parts_have parts have (tuple_at parts (out-Kind kind) step))

  list_have : (parts : List Expr) → AllByRecursion OperandsHave parts → OperandsHave (E.List parts)
  list_have parts have (kind, has) =
      let step = sym (opened (E.List parts) kind ∙ rw (E.outs-List parts)) ∙ has in
      at_layer (E.List parts) (O.List parts) (E.rolls-List parts)
      (parts_have parts have (list_at parts (out-Kind kind) step))

  cons_have : (parts : List Expr) (rest : Expr) → AllByRecursion OperandsHave parts →
      OperandsHave rest → OperandsHave (E.Cons parts rest)
  cons_have parts rest have last (kind, has) =
      let step = sym (opened (E.Cons parts rest) kind ∙ rw (E.outs-Cons parts rest)) ∙ has in
      let at = cons_at parts rest (out-Kind kind) step in
      at_layer (E.Cons parts rest) (O.Cons parts rest) (E.rolls-Cons parts rest) (
        at.1,
        each_append Must (in_parts parts) (operands_in rest) (parts_have parts have at.0)
            (last (Kind.List at.1.0, at.1.1)),
      )

  neg_have : (part : Expr) → OperandsHave part → OperandsHave (E.Neg part)
  neg_have part have (kind, has) =
      let step = sym (opened (E.Neg part) kind ∙ rw (E.outs-Neg part)) ∙ has in
      let int = neg_at part (out-Kind kind) step in
      at_layer (E.Neg part) (O.Neg part) (E.rolls-Neg part) (int, have (Kind.Int, int))

  op_have : (kind : OpKind) (a b : Expr) → OperandsHave a → OperandsHave b →
      OperandsHave (E.Op kind a b)
  op_have op a b left right (kind, has) =
      let step = sym (opened (E.Op op a b) kind ∙ rw (E.outs-Op op a b)) ∙ has in
      let ints = op_at op a b (out-Kind kind) step in
      at_layer (E.Op op a b) (O.Op op a b) (E.rolls-Op op a b) (
        ints.0,
        (
          ints.1,
          each_append Must (operands_in a) (operands_in b)
              (left (Kind.Int, ints.0)) (right (Kind.Int, ints.1)),
        ),
      )

  operands_have : (e : Expr) → OperandsHave e
  operands_have = by_form OperandsHave (record {
    int = λ n has. at_layer (E.Int n) (O.Int n) (E.rolls-Int n) tt;
    text = λ s has. at_layer (E.Text s) (O.Text s) (E.rolls-Text s) tt;
    var = λ x has. at_layer (E.Var x) (O.Var x) (E.rolls-Var x) tt;
    this = λ has. at_layer E.This O.This E.rolls-This tt;
    step = λ has. at_layer E.Step O.Step E.rolls-Step tt;
    tuple = tuple_have;
    list = list_have;
    cons = cons_have;
    neg = neg_have;
    op = op_have;
  })

  -- an operand of the kind that it must have is fit
  fit : (env : Env) → HaveKinds kinds env → (o : Operand) → Must o → IsFit env o
  fit env have (number e) must = λ v is.
      int_of_kind v (values_have_kinds kinds env e Kind.Int v have must is)
  fit env have (tail e) (kind, must) = λ v is.
      let has = values_have_kinds kinds env e (Kind.List kind) v have must is in
      (elements v, sym (list_of_kind v kind has))

  pub operands_fit : (env : Env) → HaveKinds kinds env → (e : Expr) → HasSome e →
      (o : Operand) → Contains (operands_in e) o → IsFit env o
  operands_fit env have e some o there =
      fit env have o
      (All-contains Must (operands_in e) o
      (All-from_recursion Must (operands_in e) (operands_have e some)) there)

  set_or_before : (pairs : List (ℕ × Value)) (x y : ℕ) (v w : Value) (same : Bool) →
      nat_eq x y ≡ same → HasKind v (kinds x) →
      ((z : ℕ) (u : Value) → value_beside pairs z ≡ Some u → HasKind u (kinds z)) →
      (if same then Some v else value_beside pairs y) ≡ Some w → HasKind w (kinds y)
  set_or_before pairs x y v w true same kind others e =
      subst (λ u. HasKind u (kinds y)) (same_Some v w e)
      (subst (λ z. HasKind v (kinds z)) (eqb-true x y same) kind)
  set_or_before pairs x y v w false same kind others e = others y w e

  actions_keep : (actions : List Action) (before after : Acts) → HaveKinds kinds before.env →
      AllByRecursion (IsGoodAction kinds) actions → after_actions actions before ≡ Some after →
      HaveKinds kinds after.env
  actions_keep [] before after have good e =
      subst (λ acts. HaveKinds kinds acts.env) (same_Some before after e) have
  actions_keep (Set x e ∷ actions) before after have (good, others) is =
      let next = λ (v : Value). with_set x v before in
      option_and_then_some (λ v. after_actions actions (next v)) (worth e before.env) after is
      (λ v value rest.
      let kind = values_have_kinds kinds before.env e (kinds x) v have good value in
      let keeps : HaveKinds kinds (next v).env = λ y w found.
      set_or_before before.env.pairs x y v w (nat_eq x y) refl kind have found in
      actions_keep actions (next v) after keeps others rest)
  actions_keep (Print e ∷ actions) before after have (good, others) is =
      option_and_then_some (λ v. after_actions actions (with_out v before)) (worth e before.env)
      after is
      (λ v value rest. actions_keep actions (with_out v before) after have others rest)

pub kinds_fit_operands : KindsFitOperands
kinds_fit_operands kinds env e kind have has = operands_fit kinds env have e (kind, has)

pub actions_keep_kinds : ActionsKeepKinds
actions_keep_kinds kinds actions before after have good is =
    actions_keep kinds actions before after have
    (recursion_from_All (IsGoodAction kinds) actions good) is
