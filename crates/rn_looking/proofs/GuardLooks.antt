-- The guards of a node that is looked at: their variables, and where none of them may fail.
use Rattle.std.proofs.Common.{◌≡◌, ℕ, true, List, [], ◌∷◌, sym, ap, ◌∙◌, subst}
use Rattle.std.proofs.Common.{inl, inr}
use Rattle.std.proofs.Math.Path.{fun_ext}
use Rattle.std.specs.Prelude.{Some, None, Contains, flat_map}
use Rattle.std.proofs.lemmas.List.Elements.{Contains-append_cases, Contains-append_left}
use Rattle.std.proofs.lemmas.List.Elements.{Contains-append_right}
use Rattle.rn_choices.specs.declared.next.Next.TheVariants.{Stuck}
use Rattle.rn_value.specs.declared.value.Value.{Value}
use Rattle.rn_model.specs.declared.expr.Expr.{Expr}
use Rattle.rn_model.specs.declared.expr.Cond.{Cond}
use Rattle.rn_model.specs.declared.expr.Simple.{Simple}
use Rattle.rn_model.specs.declared.expr.Simple.TheVariants as Simple
use Rattle.rn_model.specs.declared.system.Transition.{Transition}
use Rattle.rn_model.specs.Evaluation.{Env, worth}
use Rattle.rn_model.specs.Good.{Comparison, comparisons_in, guard_exprs}
use Rattle.rn_model.specs.Lists.{value_beside}
use Rattle.rn_model.specs.Systems.{vars_in}
use Rattle.rn_model.proofs.AskedValues.{contained_flat, flat_source}
use Rattle.rn_model.proofs.ReadConditions.{sides_of}
use Rattle.rn_growing.specs.declared.decision.Head.{Head}
use Rattle.rn_growing.specs.Grown.{Grown}
use Rattle.rn_growing.proofs.Growth.{only_one}
use Rattle.rn_search.specs.Missing.{IsKnown}
use Rattle.rn_search.specs.Parting.{answer_of, IsTrueAsKnown}
use Rattle.rn_search.specs.Sought.{Sought}
use Rattle.rn_search.proofs.GuardParts.{known_parts_hold}
use Rattle.rn_search.proofs.Offered.{known_guards_hold}
use Rattle.rn_looking.specs.Branches.{IsLookedAt}
use Rattle.rn_looking.specs.Forced.{Knows, IsVarForcedTo}
use Rattle.rn_looking.specs.Guards.{comparisons_of, vars_of_comparison, vars_of_simple}
use Rattle.rn_looking.specs.Guards.{vars_of_guard, KnowsGuard, IsKnownUntrue}
use Rattle.rn_looking.specs.Knowing.{ArePairsOf}
use Rattle.rn_looking.specs.Looks.{GoesOn}
use Rattle.rn_looking.specs.UntrueParts.{IsUntrue, IsPartlyUntrue}
use Rattle.rn_looking.proofs.EquatedTokens.{guard_comparisons, left_side, right_side}
use Rattle.rn_looking.proofs.EquatedTokens.{negated_side, part_sides}
use Rattle.rn_looking.proofs.KnownValues.{has_its_value}
use Rattle.rn_looking.proofs.LookedAt.{some, node_is, entered, known_by, vars_searched}
use Rattle.rn_looking.proofs.VarsOfForms.{guard_searched}
use Rattle.rn_items.proofs.Lists.{flat_nested}

-- the variables of a guard are those of its lists
pub guard_vars : (guard : Cond) → vars_of_guard guard ≡ flat_map (flat_map vars_of_simple) guard.any
guard_vars guard =
    ap (flat_map vars_of_comparison) (guard_comparisons guard)
    ∙ flat_nested vars_of_comparison (flat_map comparisons_of) guard.any
    ∙ ap (λ f. flat_map f guard.any)
    (fun_ext (λ list. flat_nested vars_of_comparison comparisons_of list))

-- a variable of a side of a comparison is one of the guard's
side_vars : (c : Comparison) (e : Expr) (x : ℕ) → Contains (sides_of c) e →
    Contains (vars_in e) x → Contains (vars_of_comparison c) x
side_vars c e x side occurs =
    elim (Contains-append_cases (c.left ∷ []) (c.right ∷ []) e side) as
    (λ _. Contains (vars_of_comparison c) x) [
      | inl left ↦ Contains-append_left (vars_in c.left) (vars_in c.right) x
          (subst (λ f. Contains (vars_in f) x) (sym (only_one c.left e left)) occurs)
      | inr right ↦ Contains-append_right (vars_in c.left) (vars_in c.right) x
          (subst (λ f. Contains (vars_in f) x) (sym (only_one c.right e right)) occurs)
    ]

-- a variable on a side of a guard's comparison is one of the guard
pub among_vars : (guard : Cond) (e : Expr) (x : ℕ) → Contains (guard_exprs guard) e →
    Contains (vars_in e) x → Contains (vars_of_guard guard) x
among_vars guard e x there occurs =
    let from = flat_source sides_of (comparisons_in guard) e there in
    contained_flat vars_of_comparison (comparisons_in guard) from.0 x from.1
    (side_vars from.0 e x from.2 occurs)

-- where each variable stands beside its value, the guard is known
pub knows_guard : (g : Grown) (head : Head) (guard : Cond) (env : Env) (path vars : List ℕ)
    (pairs : List (ℕ × Value)) → env.this ≡ head.inst → env.step ≡ None → env.pairs ≡ pairs →
    path ≡ head.path → vars ≡ vars_of_guard guard → ArePairsOf g path vars pairs →
    KnowsGuard g head guard env
knows_guard g head guard env path vars pairs this step pairs_are path_is vars_are so e there =
    record {
      this = this;
      step = step;
      forced = λ x occurs.
          let v = has_its_value (IsVarForcedTo g path) pairs x so.1
          (subst (λ xs. Contains xs x) (sym (so.0 ∙ vars_are)) (among_vars guard e x there occurs))
          in (
            v.0,
            subst (λ ps. value_beside ps x ≡ Some v.0) (sym pairs_are) v.1,
            subst (λ p. IsVarForcedTo g p x v.0) path_is v.2,
          );
    }

-- Where a guard of it is known, and isn't true, nothing leads on.
module _ (sought : Sought) (g : Grown) (node : ℕ) (head : Head) (t : Transition)
    (at : IsLookedAt sought g node head t) (guard : Cond) (there : Contains t.guards guard) where
  guard_known : (env : Env) → KnowsGuard g head guard env → (e : Expr) →
      Contains (guard_exprs guard) e → IsKnown sought.system g.decisions head e env
  guard_known env knows e side =
      subst (λ h. IsKnown sought.system g.decisions h e env) (node_is sought g node head t at)
      (known_by sought g node head t at e env
      (vars_searched sought g node head t at e (guard_searched t guard e there side))
      (knows e side))

  -- then the decisions lead to no binding
  pub untrue_is_stuck : IsKnownUntrue g head guard → GoesOn sought g.decisions Stuck
  untrue_is_stuck (env, knows, untrue) b leads =
      untrue
      (known_guards_hold sought g.decisions b head guard env leads at.branch.sound.turns
      (some sought g node head t at) (entered sought g node head t at)
      (subst (λ u. Contains u.guards guard) at.transition there) (guard_known env knows))

  -- nor where it is one list of conditions, and one of them is known not to be true
  part_known : (simples : List Simple) (one : Simple) (e : Expr) (env : Env) →
      guard.any ≡ simples ∷ [] → Contains simples one →
      Contains (flat_map sides_of (comparisons_of one)) e → Knows g head e env →
      IsKnown sought.system g.decisions head e env
  part_known simples one e env any among side knows =
      subst (λ h. IsKnown sought.system g.decisions h e env) (node_is sought g node head t at)
      (known_by sought g node head t at e env
      (vars_searched sought g node head t at e
      (guard_searched t guard e there (part_sides guard simples one e any among side))) knows)

  part_fails : (simples : List Simple) (one : Simple) → guard.any ≡ simples ∷ [] →
      Contains simples one → IsUntrue g head one →
      ¬ IsTrueAsKnown sought.system g.decisions head one
  part_fails simples one any among (inl it) so =
      let comparison : Contains simples (Simple.Compare it.kind it.left it.right) =
      subst (Contains simples) it.is among in
      it.untrue
      (subst (λ w. answer_of it.kind it.first w ≡ Some true) it.knows_right.2
      (subst (λ v. answer_of it.kind v (worth it.right it.knows_right.0) ≡ Some true)
      it.knows_left.2
      (so.comparison it.kind it.left it.right it.knows_left.0 it.knows_right.0 it.is
      (part_known simples (Simple.Compare it.kind it.left it.right) it.left it.knows_left.0 any
      comparison (left_side it.kind it.left it.right) it.knows_left.1)
      (part_known simples (Simple.Compare it.kind it.left it.right) it.right it.knows_right.0 any
      comparison (right_side it.kind it.left it.right) it.knows_right.1))))
  part_fails simples one any among (inr it) so =
      let negation : Contains simples (Simple.Not it.cond) =
      subst (Contains simples) it.is among in
      let untrue = so.negated it.cond it.env it.is (λ e side.
      part_known simples (Simple.Not it.cond) e it.env any negation (negated_side it.cond e side)
      (it.knows e side)) in
      let both = sym untrue ∙ it.holds in
      let absurdity : ⊥ = cc in absurdity

  pub partly_untrue_is_stuck : IsPartlyUntrue g head guard → GoesOn sought g.decisions Stuck
  partly_untrue_is_stuck (simples, (any, (one, (among, untrue)))) b leads =
      let held = known_parts_hold sought g.decisions b head guard leads at.branch.sound.turns
      (some sought g node head t at) (entered sought g node head t at)
      (subst (λ u. Contains u.guards guard) at.transition there) in
      let it : simples ≡ held.0 =
      only_one simples held.0 (subst (λ ls. Contains ls held.0) any held.1) in
      part_fails simples one any among untrue
      (held.2 one (subst (λ xs. Contains xs one) it among))
