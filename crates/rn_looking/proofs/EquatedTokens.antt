-- What a guard of a node asks a variable to be the same as.
use Rattle.std.proofs.Common.{◌≡◌, ℕ, ◌⊎◌, List, [], ◌∷◌, refl, sym, ap, ◌∙◌, subst, inl, inr, arith}
use Rattle.std.proofs.Math.Path.{fun_ext}
use Rattle.std.specs.Prelude.{Option, Contains, flat_map, map}
use Rattle.std.proofs.lemmas.List.Folds.{flat_map-map}
use Rattle.rn_value.specs.declared.value.Value.{Value}
use Rattle.rn_model.specs.declared.expr.CompareKind.{CompareKind}
use Rattle.rn_model.specs.declared.expr.CompareKind.TheVariants.{Same}
use Rattle.rn_model.specs.declared.expr.Cond.{Cond, fold_out-Cond}
use Rattle.rn_model.specs.declared.expr.Expr.{Expr}
use Rattle.rn_model.specs.declared.expr.Simple.{Simple, fold_out-Simple}
use Rattle.rn_model.specs.declared.expr.Simple.TheVariants as Simple
use Rattle.rn_model.specs.declared.system.Transition.{Transition}
use Rattle.rn_model.specs.Evaluation.{Env, worth}
use Rattle.rn_model.specs.Good.{Comparison, comparisons_step, comparisons_in, guard_exprs}
use Rattle.rn_model.specs.Good.{searched_exprs}
use Rattle.rn_model.proofs.AskedValues.{contained_flat, flat_source}
use Rattle.rn_model.proofs.ReadConditions.{sides_of}
use Rattle.rn_growing.specs.declared.decision.Head.{Head}
use Rattle.rn_growing.specs.Grown.{Grown}
use Rattle.rn_search.specs.Narrowing.{Equates}
use Rattle.rn_looking.specs.Equating.{IsSide, IsEquated}
use Rattle.rn_looking.specs.Forced.{Knows}
use Rattle.rn_looking.specs.Guards.{comparisons_of}
use Rattle.rn_looking.proofs.VarsOfForms.{guard_searched}

-- the comparisons of a guard are those of its lists
pub guard_comparisons : (guard : Cond) →
    comparisons_in guard ≡ flat_map (flat_map comparisons_of) guard.any
guard_comparisons guard =
    fold_out-Cond (List Comparison) (List Comparison) comparisons_step
    (λ cond. flat_map (λ list. flat_map (λ c. c) list) cond.any) guard
    ∙ flat_map-map (λ list. flat_map (λ c. c) list) (map comparisons_of) guard.any
    ∙ ap (λ f. flat_map f guard.any)
    (fun_ext (λ list. flat_map-map (λ c. c) comparisons_of list))

-- the sides of a part of a guard that is one list are the guard's
pub part_sides : (guard : Cond) (simples : List Simple) (one : Simple) (e : Expr) →
    guard.any ≡ simples ∷ [] → Contains simples one →
    Contains (flat_map sides_of (comparisons_of one)) e → Contains (guard_exprs guard) e
part_sides guard simples one e any there side =
    let from = flat_source sides_of (comparisons_of one) e side in
    let among : Contains (flat_map (flat_map comparisons_of) (simples ∷ [])) from.0 =
    contained_flat (flat_map comparisons_of) (simples ∷ []) simples from.0 (0, omega arith, refl)
    (contained_flat comparisons_of simples one from.0 there from.1) in
    let all = ap (flat_map (flat_map comparisons_of)) (sym any) ∙ sym (guard_comparisons guard) in
    contained_flat sides_of (comparisons_in guard) from.0 e
    (subst (λ cs. Contains cs from.0) all among) from.2

pub comparison_itself : (kind : CompareKind) (left right : Expr) →
    comparisons_of (Simple.Compare kind left right)
    ≡ (record { kind = kind; left = left; right = right }) ∷ []
comparison_itself kind left right =
    fold_out-Simple (List Comparison) (List Comparison) comparisons_step
    (λ cond. flat_map (λ list. flat_map (λ c. c) list) cond.any) (Simple.Compare kind left right)
    ∙ rw (Simple.outs-Compare kind left right)

-- the sides of a comparison
pub left_side : (kind : CompareKind) (left right : Expr) →
    Contains (flat_map sides_of (comparisons_of (Simple.Compare kind left right))) left
left_side kind left right =
    subst (λ cs. Contains (flat_map sides_of cs) left) (sym (comparison_itself kind left right))
    (0, omega arith, refl)

pub right_side : (kind : CompareKind) (left right : Expr) →
    Contains (flat_map sides_of (comparisons_of (Simple.Compare kind left right))) right
right_side kind left right =
    subst (λ cs. Contains (flat_map sides_of cs) right) (sym (comparison_itself kind left right))
    (1, omega arith, refl)

-- those of what a condition negates
pub negated_side : (cond : Cond) (e : Expr) → Contains (guard_exprs cond) e →
    Contains (flat_map sides_of (comparisons_of (Simple.Not cond))) e
negated_side cond e side =
    let is : comparisons_of (Simple.Not cond) ≡ comparisons_in cond =
    fold_out-Simple (List Comparison) (List Comparison) comparisons_step
    (λ inner. flat_map (λ list. flat_map (λ c. c) list) inner.any) (Simple.Not cond)
    ∙ rw (Simple.outs-Not cond) in
    subst (λ cs. Contains (flat_map sides_of cs) e) (sym is) side

-- A guard of a transition that asks a variable to be the same as a side, which is known.
pub record IsBySide (g : Grown) (head : Head) (t : Transition) (x : ℕ) (w : Option Value)
    : Type 0 where
  pub guard : Cond
  pub there : Contains t.guards guard
  pub side : Expr
  pub equates : Equates guard (Expr.Var x) side ⊎ Equates guard side (Expr.Var x)
  pub searched : Contains (searched_exprs t) side
  pub env : Env
  pub knows : Knows g head side env
  pub is : worth side env ≡ w

equates_by : (guard : Cond) (simples : List Simple) (simple : Simple) (x : ℕ) (e : Expr) →
    guard.any ≡ simples ∷ [] → Contains simples simple → IsSide simple x e →
    Equates guard (Expr.Var x) e ⊎ Equates guard e (Expr.Var x)
equates_by guard simples simple x e any there (inl is) =
    inl (simples, any, subst (Contains simples) is there)
equates_by guard simples simple x e any there (inr is) =
    inr (simples, any, subst (Contains simples) is there)

side_there : (guard : Cond) (x : ℕ) (e : Expr) →
    Equates guard (Expr.Var x) e ⊎ Equates guard e (Expr.Var x) → Contains (guard_exprs guard) e
side_there guard x e (inl (simples, any, there)) =
    part_sides guard simples (Simple.Compare Same (Expr.Var x) e) e any there
    (right_side Same (Expr.Var x) e)
side_there guard x e (inr (simples, any, there)) =
    part_sides guard simples (Simple.Compare Same e (Expr.Var x)) e any there
    (left_side Same e (Expr.Var x))

pub by_side : (g : Grown) (head : Head) (t : Transition) (x : ℕ) (w : Option Value) →
    IsEquated g head t x w → IsBySide g head t x w
by_side g head t x w (guard, (there, (simples, (any, (simple, (among, (e, (side, known)))))))) =
    let equates = equates_by guard simples simple x e any among side in
    record {
      guard = guard;
      there = there;
      side = e;
      equates = equates;
      searched = guard_searched t guard e there (side_there guard x e equates);
      env = known.0;
      knows = known.1;
      is = known.2;
    }
