-- Conditions are defined exactly where the sides of their comparisons have values.
use Rattle.std.proofs.Common.{◌≡◌, ℕ, ℤ, refl, ap, ◌∙◌, subst, zero, suc}
use Rattle.std.proofs.Common.{arith}
use Rattle.std.specs.Prelude.{Option, Some, None, option_map, option_and_then, Contains, All}
use Rattle.std.proofs.lemmas.List.Elements.{All-contains, All-from_recursion}
use Rattle.rn_value.specs.declared.value.Kind.{Kind}
use Rattle.rn_value.specs.declared.value.Value.{Value}
use Rattle.rn_model.specs.declared.expr.CompareKind.{CompareKind}
use Rattle.rn_model.specs.declared.expr.CompareKind.TheVariants.{Same, Differs, Less, AtMost}
use Rattle.rn_model.specs.declared.expr.CompareKind.TheVariants.{Greater, AtLeast}
use Rattle.rn_model.specs.declared.expr.Expr.{Expr}
use Rattle.rn_model.specs.declared.expr.Cond.{Cond}
use Rattle.rn_model.specs.Kinds.{HasExprKind}
use Rattle.rn_model.specs.Evaluation.{Env, worth, comparison_of, int_comparison, int_of, truth}
use Rattle.rn_model.specs.Good.{Comparison, CanCompare, comparisons_in, guard_exprs}
use Rattle.rn_model.specs.ExpressionLaws.{HaveKinds, TruthsAreDefined}
use Rattle.rn_model.proofs.AskedValues.{contained_flat, flat_source}
use Rattle.rn_model.proofs.EvaluationLemmas.{int_of-Int}
use Rattle.rn_model.proofs.ConditionsByComparisons.{compared, IsDefined, defined_by_comparisons}
use Rattle.rn_model.proofs.OperandKinds.{values_have_kinds, int_of_kind}
use Rattle.rn_model.proofs.ReadConditions.{each_in, sides_of, answer_of}

module _ (env : Env) where
  -- an expression has a value
  abbrev pub HasValue : Expr → Type 0
  HasValue e = (v : Value) × (worth e env ≡ Some v)

  sides_valued : (kind : CompareKind) (a b : Option Value) → IsDefined (answer_of kind a b) →
      ((v : Value) × (a ≡ Some v)) × ((w : Value) × (b ≡ Some w))
  sides_valued kind None b (answer, e) = absurd (let no : ⊥ = cc in no)
  sides_valued kind (Some v) None (answer, e) = absurd (let no : ⊥ = cc in no)
  sides_valued kind (Some v) (Some w) defined = ((v, refl), (w, refl))

  -- one of the two sides
  one_side : (c : Comparison) (P : Expr → Type 0) → P c.left → P c.right → (e : Expr) →
      Contains (sides_of c) e → P e
  one_side c P left right e (zero, h, is) = subst P is left
  one_side c P left right e (suc zero, h, is) = subst P is right
  one_side c P left right e (suc (suc k), h, is) = absurd (let no : ⊥ = omega (arith, h) in no)

  -- the sides of a condition's comparisons have values where it is defined
  pub defined_sides : (cond : Cond) → IsDefined (truth cond env) → (c : Comparison) →
      Contains (comparisons_in cond) c → HasValue c.left × HasValue c.right
  defined_sides cond defined c there =
      let HasAnswer = λ (c : Comparison). IsDefined (compared env c) in
      let all = (defined_by_comparisons env cond).0 defined in
      let answered = All-contains HasAnswer (comparisons_in cond) c
      (All-from_recursion HasAnswer (comparisons_in cond) all) there in
      sides_valued c.kind (worth c.left env) (worth c.right env) answered

  pub defined_values : (cond : Cond) → IsDefined (truth cond env) → (e : Expr) →
      Contains (guard_exprs cond) e → HasValue e
  defined_values cond defined e there =
      let from = flat_source sides_of (comparisons_in cond) e there in
      let both = defined_sides cond defined from.0 from.1 in
      one_side from.0 HasValue both.0 both.1 e from.2

  module _ (kinds : ℕ → Kind) (have : HaveKinds kinds env) where
    ints_compared : (kind : CompareKind) (v w : Value) → ((n : ℤ) × (v ≡ Value.Int n)) →
        ((n : ℤ) × (w ≡ Value.Int n)) →
        IsDefined
        (option_and_then (λ x. option_map (int_comparison kind x) (int_of w)) (int_of v))
    ints_compared kind v w (x, is) (y, also) =
        let left : int_of v ≡ Some x = ap int_of is ∙ int_of-Int x in
        let right : int_of w ≡ Some y = ap int_of also ∙ int_of-Int y in
        (int_comparison kind x y, rw (left, right) refl)

    abbrev IsCompared : CompareKind → Value → Value → Type 0
    IsCompared kind v w = IsDefined (comparison_of kind v w)

    int_at : (e : Expr) → HasExprKind kinds e Kind.Int → (v : Value) → worth e env ≡ Some v →
        (n : ℤ) × (v ≡ Value.Int n)
    int_at e has v is = int_of_kind v (values_have_kinds kinds env e Kind.Int v have has is)

    compares : (c : Comparison) (kind : CompareKind) → CanCompare kinds c kind → (v w : Value) →
        worth c.left env ≡ Some v → worth c.right env ≡ Some w → IsCompared kind v w
    compares c Same can v w p q = (_, refl)
    compares c Differs can v w p q = (_, refl)
    compares c Less can v w p q =
        ints_compared Less v w (int_at c.left can.0 v p) (int_at c.right can.1 w q)
    compares c AtMost can v w p q =
        ints_compared AtMost v w (int_at c.left can.0 v p) (int_at c.right can.1 w q)
    compares c Greater can v w p q =
        ints_compared Greater v w (int_at c.left can.0 v p) (int_at c.right can.1 w q)
    compares c AtLeast can v w p q =
        ints_compared AtLeast v w (int_at c.left can.0 v p) (int_at c.right can.1 w q)

    answered : (c : Comparison) → CanCompare kinds c c.kind → HasValue c.left →
        HasValue c.right → IsDefined (compared env c)
    answered c can (v, p) (w, q) =
        let answer = compares c c.kind can v w p q in
        let at : compared env c ≡ comparison_of c.kind v w =
        ap (λ a. answer_of c.kind a (worth c.right env)) p ∙ ap (answer_of c.kind (Some v)) q in
        (answer.0, at ∙ answer.1)

    pub values_define : (cond : Cond) → All (λ c. CanCompare kinds c c.kind) (comparisons_in cond) →
        ((e : Expr) → Contains (guard_exprs cond) e → HasValue e) → IsDefined (truth cond env)
    values_define cond can all =
        (defined_by_comparisons env cond).1
        (each_in (λ c. IsDefined (compared env c)) (comparisons_in cond) (λ c there.
        let side = λ (e : Expr) (is : Contains (sides_of c) e).
        all e (contained_flat sides_of (comparisons_in cond) c e there is) in
        answered c (All-contains (λ c. CanCompare kinds c c.kind) (comparisons_in cond) c can there)
        (side c.left (0, omega arith, refl)) (side c.right (1, omega arith, refl))))

pub truths_are_defined : TruthsAreDefined
truths_are_defined kinds env cond have can =
    (defined_values env cond, values_define env kinds have cond can)
