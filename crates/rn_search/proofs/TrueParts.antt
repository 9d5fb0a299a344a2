-- What a condition that is true says of its parts.
use Rattle.std.proofs.Common.{◌≡◌, zero, suc, Bool, true, false, List, [], ◌∷◌, map, ◌&&◌, ◌||◌}
use Rattle.std.proofs.Common.{◌⊎◌, refl, sym, ap, ◌∙◌, subst, inl, inr, arith}
use Rattle.std.specs.Prelude.{Option, Some, None, option_and_then, option_map, not, Contains}
use Rattle.rn_model.specs.declared.expr.CompareKind.TheVariants.{Same}
use Rattle.rn_model.specs.declared.expr.Cond.{Cond}
use Rattle.rn_model.specs.declared.expr.Expr.{Expr}
use Rattle.rn_model.specs.declared.expr.Simple.{Simple}
use Rattle.rn_model.specs.Evaluation.{Env, worth, IsTrueUnder, all_true, some_true, both_defined}
use Rattle.rn_model.specs.Evaluation.{comparison_of, simple_truth}
use Rattle.rn_model.specs.Lists.{same_value}
use Rattle.rn_model.proofs.AskedValues.{later}
use Rattle.rn_model.proofs.EnablingLemmas.{not_in_nil}
use Rattle.rn_model.proofs.TruthLemmas.{truth-out, simple_truth-Compare}
use Rattle.rn_model.proofs.ValueLists.{same_is}
use Rattle.rn_growing.proofs.Growth.{only_one, some_equal}
use Rattle.rn_search.specs.Narrowing.{Equates}
use Rattle.rn_search.proofs.Alternatives.{from_and_then}

-- What is joined is true where each of it is.
both_true : (a b : Option Bool) → both_defined (λ x y. x && y) a b ≡ Some true →
    (a ≡ Some true) × (b ≡ Some true)
both_true (Some true) (Some true) e = (refl, refl)
both_true (Some true) (Some false) e = absurd (let no : ⊥ = cc in no)
both_true (Some true) None e = absurd (let no : ⊥ = cc in no)
both_true (Some false) (Some b) e = absurd (let no : ⊥ = cc in no)
both_true (Some false) None e = absurd (let no : ⊥ = cc in no)
both_true None b e = absurd (let no : ⊥ = cc in no)

pub each_true : (all : List Simple) (one : Simple) (env : Env) →
    all_true (map simple_truth all) env ≡ Some true → Contains all one →
    simple_truth one env ≡ Some true
each_true [] one env e there = absurd (not_in_nil one there)
each_true (x ∷ xs) one env e (zero, h, is) =
    subst (λ y. simple_truth y env ≡ Some true) is
    (both_true (simple_truth x env) (all_true (map simple_truth xs) env) e).0
each_true (x ∷ xs) one env e (suc k, h, is) =
    each_true xs one env (both_true (simple_truth x env) (all_true (map simple_truth xs) env) e).1
    (k, omega (arith, h), is)

-- Of the lists of a condition that is true there is one of which all are true.
one_true : (a b : Option Bool) → both_defined (λ x y. x || y) a b ≡ Some true →
    (a ≡ Some true) ⊎ (b ≡ Some true)
one_true (Some true) b e = inl refl
one_true (Some false) (Some true) e = inr refl
one_true (Some false) (Some false) e = absurd (let no : ⊥ = cc in no)
one_true (Some false) None e = absurd (let no : ⊥ = cc in no)
one_true None b e = absurd (let no : ⊥ = cc in no)

abbrev pub HasTrueList : List (List Simple) → Env → Type 0
HasTrueList lists env = (all : List Simple) × Contains lists all
    × (all_true (map simple_truth all) env ≡ Some true)

true_list : (lists : List (List Simple)) (env : Env) →
    some_true (map (map simple_truth) lists) env ≡ Some true → HasTrueList lists env
true_list [] env e = absurd (let no : ⊥ = cc in no)
true_list (all ∷ lists) env e =
    elim (one_true (all_true (map simple_truth all) env)
    (some_true (map (map simple_truth) lists) env) e) as (λ _. HasTrueList (all ∷ lists) env) [
      | inl here ↦ (all, (0, omega arith, refl), here)
      | inr there ↦ (
          let rest = true_list lists env there in
          (rest.0, later all rest.0 lists rest.1, rest.2))
    ]

pub holds_by_list : (guard : Cond) (env : Env) → IsTrueUnder env guard →
    HasTrueList guard.any env
holds_by_list guard env holds = true_list guard.any env (sym (truth-out guard env) ∙ holds)

pub not_true : (o : Option Bool) → option_map not o ≡ Some true → o ≡ Some false
not_true (Some true) e = absurd (let no : ⊥ = cc in no)
not_true (Some false) e = refl
not_true None e = absurd (let no : ⊥ = cc in no)

-- Expressions that a guard asks to be the same are, where it is true.
pub sides_same : (guard : Cond) (left right : Expr) (env : Env) → Equates guard left right →
    IsTrueUnder env guard → worth left env ≡ worth right env
sides_same guard left right env (all, any, there) holds =
    let list = holds_by_list guard env holds in
    let it : all ≡ list.0 = only_one all list.0 (subst (λ ls. Contains ls list.0) any list.1) in
    let each = each_true list.0 (Simple.Compare Same left right) env list.2
    (subst (λ xs. Contains xs (Simple.Compare Same left right)) it there) in
    let v = from_and_then (λ v. option_and_then (comparison_of Same v) (worth right env))
    (worth left env) true (sym (simple_truth-Compare Same left right env) ∙ each) in
    let w = from_and_then (comparison_of Same v.0) (worth right env) true v.2 in
    let same = same_is v.0 w.0 (some_equal (same_value v.0 w.0) true w.2) in
    v.1 ∙ ap Some same ∙ sym w.1
