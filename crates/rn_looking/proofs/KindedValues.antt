-- Where values have the kinds of their variables, what is evaluated at a node meets no value of a
-- wrong kind.
use Rattle.std.proofs.Common.{◌≡◌, ℕ, zero, suc, ◌+◌, ◌<◌, true, false, List, [], ◌∷◌, map, length}
use Rattle.std.proofs.Common.{get_or, refl, sym, ap, ◌∙◌, subst, inl, inr, ◌⊎◌, arith}
use Rattle.std.specs.Prelude.{Option, Some, None, All, Contains, IfSome, flat_map, nat_eq}
use Rattle.std.specs.Prelude.{if◌then◌else◌}
use Rattle.std.proofs.lemmas.Bool.{eqb-true}
use Rattle.std.proofs.lemmas.List.Elements.{Contains-get_or}
use Rattle.rn_value.specs.Kinds.{HasKind}
use Rattle.rn_value.specs.declared.value.Kind.{Kind, out-Kind}
use Rattle.rn_value.specs.declared.value.Kind.TheVariants as Kind
use Rattle.rn_value.specs.declared.value.Value.{Value}
use Rattle.rn_model.specs.declared.expr.CompareKind.{CompareKind}
use Rattle.rn_model.specs.declared.expr.CompareKind.TheVariants.{Same, Differs, Less, AtMost}
use Rattle.rn_model.specs.declared.expr.CompareKind.TheVariants.{Greater, AtLeast}
use Rattle.rn_model.specs.declared.expr.Cond.{Cond}
use Rattle.rn_model.specs.declared.expr.Expr.{Expr}
use Rattle.rn_model.specs.declared.expr.Expr.TheVariants as E
use Rattle.rn_model.specs.declared.expr.Simple.{Simple, fold_out-Simple}
use Rattle.rn_model.specs.declared.expr.Simple.TheVariants as Simple
use Rattle.rn_model.specs.Evaluation.{Env, worth}
use Rattle.rn_model.specs.ExpressionLaws.{HaveKinds, OperandsAreFit}
use Rattle.rn_model.specs.Good.{Comparison, CanCompare, comparisons_in, comparisons_step}
use Rattle.rn_model.specs.Kinds.{HasExprKind}
use Rattle.rn_model.specs.Lists.{value_beside}
use Rattle.rn_model.proofs.AskedValues.{contained_flat}
use Rattle.rn_model.proofs.ForcedKinds.{kinds_fit_comparisons}
use Rattle.rn_model.proofs.KindsOfValues.{same_is_equal}
use Rattle.rn_model.proofs.OperandKinds.{HasSome, opened, operands_fit, tuple_at, values_have_kinds}
use Rattle.rn_calc.specs.FitComparisons.{ComparisonsAreFit}
use Rattle.rn_growing.specs.declared.decision.Head.{Head}
use Rattle.rn_growing.specs.Grown.{Grown}
use Rattle.rn_growing.proofs.Growth.{some_equal}
use Rattle.rn_looking.specs.Equating.{IsSide}
use Rattle.rn_looking.specs.Guards.{comparisons_of}
use Rattle.rn_looking.specs.NodeKinds.{AreForced, AreOfKinds, ArePartsAt, Compare, ForceKinds}
use Rattle.rn_looking.specs.NodeKinds.{HasItsKinds, IsGuardAt, IsKindedAt, kinds_at}
use Rattle.rn_looking.proofs.EquatedTokens.{comparison_itself, guard_comparisons}

-- pairs of kinds are read as values of kinds
pub pairs_have_kinds : (kinds : ℕ → Kind) (pairs : List (ℕ × Value)) → AreOfKinds kinds pairs →
    (x : ℕ) (v : Value) → value_beside pairs x ≡ Some v → HasKind v (kinds x)
pairs_have_kinds kinds [] all x v e = absurd (let no : ⊥ = cc in no)
pairs_have_kinds kinds (p ∷ pairs) all x v e =
    elim (nat_eq p.0 x) as
    (λ b. nat_eq p.0 x ≡ b → (if b then Some p.1 else value_beside pairs x) ≡ Some v →
    HasKind v (kinds x)) [
      | true ↦ λ same is.
          subst (λ y. HasKind v (kinds y)) (eqb-true p.0 x same)
          (subst (λ w. HasKind w (kinds p.0)) (some_equal p.1 v is) (all 0 p (omega arith)))
      | false ↦ λ other is.
          pairs_have_kinds kinds pairs (λ j d low. all (suc j) d (omega (arith, low))) x v is
    ] refl e

-- one more pair
pub one_before : (kinds : ℕ → Kind) (x : ℕ) (v : Value) (pairs : List (ℕ × Value)) →
    HasKind v (kinds x) → AreOfKinds kinds pairs → AreOfKinds kinds ((x, v) ∷ pairs)
one_before kinds x v pairs first all zero d low = first
one_before kinds x v pairs first all (suc k) d low = all k d (omega (arith, low))

pub read_kinds : (kinds : ℕ → Kind) (env : Env) (pairs : List (ℕ × Value)) → env.pairs ≡ pairs →
    AreOfKinds kinds pairs → HaveKinds kinds env
read_kinds kinds env pairs is all x v beside =
    pairs_have_kinds kinds pairs all x v (subst (λ ps. value_beside ps x ≡ Some v) is beside)

-- values to which variables are forced have their kinds
pub forced_kinds : (g : Grown) (head : Head) (pairs : List (ℕ × Value)) → ForceKinds g head →
    AreForced g head pairs → AreOfKinds (kinds_at g head) pairs
forced_kinds g head pairs forces all k d low =
    let p = get_or pairs k d in forces p.0 p.1 (all k d low)

module _ (g : Grown) (head : Head) (e : Expr) (env : Env) (pairs : List (ℕ × Value))
    (is : env.pairs ≡ pairs) (kinded : IsKindedAt g head e) (all : AreForced g head pairs) where
  have : HaveKinds (kinds_at g head) env
  have = read_kinds (kinds_at g head) env pairs is (forced_kinds g head pairs kinded.0 all)

  -- so the operands of an expression that is known are fit
  pub known_fits : OperandsAreFit env e
  known_fits = operands_fit (kinds_at g head) env have e kinded.1

  -- and its value has its kinds
  pub known_kind : (told : Option Value) → told ≡ worth e env → IfSome told (HasItsKinds g head e)
  known_kind None known = tt
  known_kind (Some v) known = λ kind has.
      values_have_kinds (kinds_at g head) env e kind v have has (sym known)

-- both sides of a comparison have kinds
sides_have : (kinds : ℕ → Kind) (c : Comparison) (kind : CompareKind) → CanCompare kinds c kind →
    HasSome kinds c.left × HasSome kinds c.right
sides_have kinds c Same (kind, first, second) = ((kind, first), (kind, second))
sides_have kinds c Differs (kind, first, second) = ((kind, first), (kind, second))
sides_have kinds c Less (first, second) = ((Kind.Int, first), (Kind.Int, second))
sides_have kinds c AtMost (first, second) = ((Kind.Int, first), (Kind.Int, second))
sides_have kinds c Greater (first, second) = ((Kind.Int, first), (Kind.Int, second))
sides_have kinds c AtLeast (first, second) = ((Kind.Int, first), (Kind.Int, second))

-- comparisons that may compare what they do are fit
pub comparisons_fit : (kinds : ℕ → Kind) (env : Env) (cond : Cond) → HaveKinds kinds env →
    Compare kinds (comparisons_in cond) → ComparisonsAreFit env cond
comparisons_fit kinds env cond have can c there =
    let cs = comparisons_in cond in
    let each : All (λ c. CanCompare kinds c c.kind) cs =
    λ k d low. can (get_or cs k d) (Contains-get_or cs k d low) in
    let sides = sides_have kinds c c.kind (can c there) in
    record {
      left = operands_fit kinds env have c.left sides.0;
      right = operands_fit kinds env have c.right sides.1;
      values = kinds_fit_comparisons kinds env cond have each c there;
    }

pub guard_fits : (g : Grown) (head : Head) (guard : Cond) (env : Env) (pairs : List (ℕ × Value)) →
    env.pairs ≡ pairs → IsGuardAt g head guard → AreForced g head pairs →
    ComparisonsAreFit env guard
guard_fits g head guard env pairs is at all =
    comparisons_fit (kinds_at g head) env guard
    (read_kinds (kinds_at g head) env pairs is (forced_kinds g head pairs at.0 all)) at.1

-- the first part of a tuple with a kind has one
pub first_kinded : (g : Grown) (head : Head) (part : Expr) (parts : List Expr) →
    IsKindedAt g head (E.Tuple (part ∷ parts)) → IsKindedAt g head part
first_kinded g head part parts (forces, (kind, has)) =
    let kinds = kinds_at g head in
    let step = sym (opened kinds (E.Tuple (part ∷ parts)) kind ∙ rw (E.outs-Tuple (part ∷ parts)))
    ∙ has in
    (forces, (tuple_at kinds (part ∷ parts) (out-Kind kind) step).0)

-- a variable has its declared kind alone
pub var_kind_is : (kinds : ℕ → Kind) (x : ℕ) (kind : Kind) → HasExprKind kinds (E.Var x) kind →
    kinds x ≡ kind
var_kind_is kinds x kind has =
    let step = sym (opened kinds (E.Var x) kind ∙ rw (E.outs-Var x)) ∙ has in
    same_is_equal (kinds x) kind step

-- the parts of a guard that is one list compare what they may
pub list_parts : (g : Grown) (head : Head) (guard : Cond) (simples : List Simple) →
    guard.any ≡ simples ∷ [] → IsGuardAt g head guard → ArePartsAt g head simples
list_parts g head guard simples any (forces, compare) = (
  forces,
  λ c there.
      let among : Contains (flat_map (flat_map comparisons_of) (simples ∷ [])) c =
      contained_flat (flat_map comparisons_of) (simples ∷ []) simples c (0, omega arith, refl) there
      in
      let all = ap (flat_map (flat_map comparisons_of)) (sym any) ∙ sym (guard_comparisons guard) in
      compare c (subst (λ cs. Contains cs c) all among),
)

-- so does each of them
part_compares : (g : Grown) (head : Head) (simples : List Simple) (one : Simple) →
    ArePartsAt g head simples → Contains simples one →
    Compare (kinds_at g head) (comparisons_of one)
part_compares g head simples one parts among c there =
    parts.1 c (contained_flat comparisons_of simples one c among there)

-- the sides of a comparison among them have kinds
pub sides_kinded : (g : Grown) (head : Head) (simples : List Simple) (one : Simple)
    (kind : CompareKind) (left right : Expr) → ArePartsAt g head simples → Contains simples one →
    one ≡ Simple.Compare kind left right → IsKindedAt g head left × IsKindedAt g head right
sides_kinded g head simples one kind left right parts among is =
    let c : Comparison = record { kind = kind; left = left; right = right } in
    let there : Contains (comparisons_of one) c =
    subst (λ cs. Contains cs c) (sym (ap comparisons_of is ∙ comparison_itself kind left right))
    (0, omega arith, refl) in
    let sides = sides_have (kinds_at g head) c kind
    (part_compares g head simples one parts among c there) in
    ((parts.0, sides.0), (parts.0, sides.1))

-- that of which one is a variable has a kind
pub side_kinded : (g : Grown) (head : Head) (simples : List Simple) (one : Simple) (x : ℕ)
    (e : Expr) → ArePartsAt g head simples → Contains simples one → IsSide one x e →
    IsKindedAt g head e
side_kinded g head simples one x e parts among (inl is) =
    (sides_kinded g head simples one Same (E.Var x) e parts among is).1
side_kinded g head simples one x e parts among (inr is) =
    (sides_kinded g head simples one Same e (E.Var x) parts among is).0

-- and a condition that is negated among them compares what it may
negation_itself : (cond : Cond) → comparisons_of (Simple.Not cond) ≡ comparisons_in cond
negation_itself cond =
    fold_out-Simple (List Comparison) (List Comparison) comparisons_step
    (λ cond. flat_map (λ list. flat_map (λ c. c) list) cond.any) (Simple.Not cond)
    ∙ rw (Simple.outs-Not cond)

pub negated_compares : (g : Grown) (head : Head) (simples : List Simple) (one : Simple)
    (cond : Cond) → ArePartsAt g head simples → Contains simples one → one ≡ Simple.Not cond →
    IsGuardAt g head cond
negated_compares g head simples one cond parts among is = (
  parts.0,
  subst (Compare (kinds_at g head)) (ap comparisons_of is ∙ negation_itself cond)
      (part_compares g head simples one parts among),
)
