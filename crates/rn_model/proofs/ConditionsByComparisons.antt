-- The truth of a condition by the answers of its comparisons.
use Rattle.std.proofs.Common.{◌≡◌, Bool, true, false, ◌&&◌, ◌||◌, not, List, [], ◌∷◌, ◌++◌, map}
use Rattle.std.proofs.Common.{refl, sym, ap, ◌∙◌, subst}
use Rattle.std.specs.Prelude.{Option, Some, None, option_map, option_and_then, flat_map}
use Rattle.std.specs.List.{AllByRecursion}
use Rattle.rn_model.specs.declared.expr.Expr.{Expr}
use Rattle.rn_model.specs.declared.expr.CompareKind.{CompareKind}
use Rattle.rn_model.specs.declared.expr.Cond.{Cond, Cond-F, fold-roll-Cond}
use Rattle.rn_model.specs.declared.expr.Simple.{Simple, out-Simple, map-Simple, fold-Simple}
use Rattle.rn_model.specs.declared.expr.Simple.{fold_out-Simple}
use Rattle.rn_model.specs.declared.expr.Simple.TheVariants as Simple
use Rattle.rn_model.specs.Evaluation.{Env, worth, comparison_of, truth, simple_truth, all_true}
use Rattle.rn_model.specs.Evaluation.{some_true, both_defined}
use Rattle.rn_model.specs.Good.{Comparison, comparisons_in, comparisons_step}
use Rattle.rn_model.proofs.EachElement.{each_append}
use Rattle.rn_model.proofs.TruthLemmas.{cond_of, truth-of, simple_truth-Compare, simple_truth-Not}
use Rattle.rn_model.proofs.FormsOfExpressions.{by_part}

-- the answer of a comparison
abbrev pub compared : Env → Comparison → Option Bool
compared env c =
    option_and_then (λ v. option_and_then (comparison_of c.kind v) (worth c.right env))
    (worth c.left env)

-- the comparisons of a condition's lists, by those of their elements
abbrev joined : Cond-F (List Comparison) (List Comparison) → List Comparison
joined cond = flat_map (λ list. flat_map (λ c. c) list) cond.any

abbrev compared_in : Simple → List Comparison
compared_in = fold-Simple (List Comparison) (List Comparison) comparisons_step joined

comparisons-of : (lists : List (List Simple)) →
    comparisons_in (cond_of lists)
    ≡ flat_map (λ list. flat_map (λ c. c) list) (map (map compared_in) lists)
comparisons-of lists =
    fold-roll-Cond (List Comparison) (List Comparison) comparisons_step joined
    (record { any = lists })

out : (x : Simple) →
    compared_in x
    ≡ comparisons_step
    (map-Simple Simple Cond (List Comparison) (List Comparison) compared_in comparisons_in
    (out-Simple x))
out x = fold_out-Simple (List Comparison) (List Comparison) comparisons_step joined x

compared_in-Compare : (kind : CompareKind) (a b : Expr) →
    compared_in (Simple.Compare kind a b) ≡ (record { kind = kind; left = a; right = b }) ∷ []
compared_in-Compare kind a b = out (Simple.Compare kind a b) ∙ rw (Simple.outs-Compare kind a b)

compared_in-Not : (cond : Cond) → compared_in (Simple.Not cond) ≡ comparisons_in cond
compared_in-Not cond = out (Simple.Not cond) ∙ rw (Simple.outs-Not cond)

-- What holds of each element of lists that are joined holds of each in them.
pub first_half : {X : Type 0} (P : X → Type 0) (xs ys : List X) → AllByRecursion P (xs ++ ys) →
    AllByRecursion P xs
first_half P [] ys all = tt
first_half P (x ∷ xs) ys all = (all.0, first_half P xs ys all.1)

pub second_half : {X : Type 0} (P : X → Type 0) (xs ys : List X) → AllByRecursion P (xs ++ ys) →
    AllByRecursion P ys
second_half P [] ys all = all
second_half P (x ∷ xs) ys all = second_half P xs ys all.1

-- Where the answers of a condition's comparisons are the same, so is its truth.
module _ (env other : Env) where
  abbrev AnswerSame : Comparison → Type 0
  AnswerSame c = compared env c ≡ compared other c

  abbrev SimpleSame : Simple → Type 0
  SimpleSame x = AllByRecursion AnswerSame (compared_in x) →
      simple_truth x env ≡ simple_truth x other

  abbrev CondSame : Cond → Type 0
  CondSame cond = AllByRecursion AnswerSame (comparisons_in cond) →
      truth cond env ≡ truth cond other

  compare_same : (kind : CompareKind) (a b : Expr) → SimpleSame (Simple.Compare kind a b)
  compare_same kind a b same =
      let here = subst (AllByRecursion AnswerSame) (compared_in-Compare kind a b) same in
      simple_truth-Compare kind a b env ∙ here.0 ∙ sym (simple_truth-Compare kind a b other)

  negation_same : (cond : Cond) → CondSame cond → SimpleSame (Simple.Not cond)
  negation_same cond is same =
      simple_truth-Not cond env
      ∙ ap (option_map not) (is (subst (AllByRecursion AnswerSame) (compared_in-Not cond) same))
      ∙ sym (simple_truth-Not cond other)

  abbrev and : Option Bool → Option Bool → Option Bool
  and = both_defined (λ x y. x && y)

  abbrev or : Option Bool → Option Bool → Option Bool
  or = both_defined (λ x y. x || y)

  list_same : (xs : List Simple) → AllByRecursion SimpleSame xs →
      AllByRecursion AnswerSame (flat_map (λ c. c) (map compared_in xs)) →
      all_true (map simple_truth xs) env ≡ all_true (map simple_truth xs) other
  list_same [] is same = refl
  list_same (x ∷ xs) (is, others) same =
      let later = flat_map (λ c. c) (map compared_in xs) in
      let first = is (first_half AnswerSame (compared_in x) later same) in
      let rest = list_same xs others (second_half AnswerSame (compared_in x) later same) in
      ap (λ o. and o (all_true (map simple_truth xs) env)) first
      ∙ ap (and (simple_truth x other)) rest

  lists_same : (lists : List (List Simple)) →
      AllByRecursion (AllByRecursion SimpleSame) lists →
      AllByRecursion AnswerSame
      (flat_map (λ list. flat_map (λ c. c) list) (map (map compared_in) lists)) →
      some_true (map (map simple_truth) lists) env ≡ some_true (map (map simple_truth) lists) other
  lists_same [] is same = refl
  lists_same (list ∷ lists) (is, others) same =
      let here = flat_map (λ c. c) (map compared_in list) in
      let later = flat_map (λ list. flat_map (λ c. c) list) (map (map compared_in) lists) in
      let first = list_same list is (first_half AnswerSame here later same) in
      let rest = lists_same lists others (second_half AnswerSame here later same) in
      ap (λ o. or o (some_true (map (map simple_truth) lists) env)) first
      ∙ ap (or (all_true (map simple_truth list) other)) rest

  cond_same : (lists : List (List Simple)) → AllByRecursion (AllByRecursion SimpleSame) lists →
      CondSame (cond_of lists)
  cond_same lists is same =
      let at_lists = subst (AllByRecursion AnswerSame) (comparisons-of lists) same in
      truth-of lists env ∙ lists_same lists is at_lists ∙ sym (truth-of lists other)

  pub truth_by_comparisons : (cond : Cond) → CondSame cond
  truth_by_comparisons = by_part SimpleSame CondSame
      (record { compare = compare_same; negation = negation_same; lists = cond_same })

-- A condition is defined exactly where each of its comparisons is.
abbrev pub IsDefined : Option Bool → Type 0
IsDefined o = (answer : Bool) × (o ≡ Some answer)

mapped_defined : (f : Bool → Bool) (o : Option Bool) → IsDefined (option_map f o) → IsDefined o
mapped_defined f None (answer, e) = absurd (let no : ⊥ = cc in no)
mapped_defined f (Some b) defined = (b, refl)

defined_mapped : (f : Bool → Bool) (o : Option Bool) → IsDefined o → IsDefined (option_map f o)
defined_mapped f o (answer, e) = (f answer, ap (option_map f) e)

both_are : (join : Bool → Bool → Bool) (a b : Option Bool) → IsDefined (both_defined join a b) →
    IsDefined a × IsDefined b
both_are join None b (answer, e) = absurd (let no : ⊥ = cc in no)
both_are join (Some x) None (answer, e) = absurd (let no : ⊥ = cc in no)
both_are join (Some x) (Some y) defined = ((x, refl), (y, refl))

are_both : (join : Bool → Bool → Bool) (a b : Option Bool) → IsDefined a → IsDefined b →
    IsDefined (both_defined join a b)
are_both join a b (x, e) (y, f) =
    (join x y, ap (λ o. both_defined join o b) e ∙ ap (both_defined join (Some x)) f)

module _ (env : Env) where
  abbrev HasAnswer : Comparison → Type 0
  HasAnswer c = IsDefined (compared env c)

  abbrev SimpleIs : Simple → Type 0
  SimpleIs x = (IsDefined (simple_truth x env) → AllByRecursion HasAnswer (compared_in x))
      × (AllByRecursion HasAnswer (compared_in x) → IsDefined (simple_truth x env))

  abbrev CondIs : Cond → Type 0
  CondIs cond = (IsDefined (truth cond env) → AllByRecursion HasAnswer (comparisons_in cond))
      × (AllByRecursion HasAnswer (comparisons_in cond) → IsDefined (truth cond env))

  compare_is : (kind : CompareKind) (a b : Expr) → SimpleIs (Simple.Compare kind a b)
  compare_is kind a b = (
    λ (answer, e).
        subst (AllByRecursion HasAnswer) (sym (compared_in-Compare kind a b))
        ((answer, sym (simple_truth-Compare kind a b env) ∙ e), tt),
    λ all.
        let here = (subst (AllByRecursion HasAnswer) (compared_in-Compare kind a b) all).0 in
        (here.0, simple_truth-Compare kind a b env ∙ here.1),
  )

  negation_is : (cond : Cond) → CondIs cond → SimpleIs (Simple.Not cond)
  negation_is cond is = (
    λ defined.
        let inner = subst IsDefined (simple_truth-Not cond env) defined in
        subst (AllByRecursion HasAnswer) (sym (compared_in-Not cond))
        (is.0 (mapped_defined not (truth cond env) inner)),
    λ all.
        let inner = is.1 (subst (AllByRecursion HasAnswer) (compared_in-Not cond) all) in
        subst IsDefined (sym (simple_truth-Not cond env))
        (defined_mapped not (truth cond env) inner),
  )

  abbrev in_list : List Simple → List Comparison
  in_list xs = flat_map (λ c. c) (map compared_in xs)

  list_defines : (xs : List Simple) → AllByRecursion SimpleIs xs →
      IsDefined (all_true (map simple_truth xs) env) → AllByRecursion HasAnswer (in_list xs)
  list_defines [] is defined = tt
  list_defines (x ∷ xs) (is, others) defined =
      let rest = all_true (map simple_truth xs) env in
      let both = both_are (λ x y. x && y) (simple_truth x env) rest defined in
      each_append HasAnswer (compared_in x) (in_list xs) (is.0 both.0)
      (list_defines xs others both.1)

  list_is_defined : (xs : List Simple) → AllByRecursion SimpleIs xs →
      AllByRecursion HasAnswer (in_list xs) → IsDefined (all_true (map simple_truth xs) env)
  list_is_defined [] is all = (true, refl)
  list_is_defined (x ∷ xs) (is, others) all =
      let first = is.1 (first_half HasAnswer (compared_in x) (in_list xs) all) in
      let later = second_half HasAnswer (compared_in x) (in_list xs) all in
      are_both (λ x y. x && y) (simple_truth x env) (all_true (map simple_truth xs) env) first
      (list_is_defined xs others later)

  abbrev in_lists : List (List Simple) → List Comparison
  in_lists lists = flat_map (λ list. flat_map (λ c. c) list) (map (map compared_in) lists)

  lists_define : (lists : List (List Simple)) → AllByRecursion (AllByRecursion SimpleIs) lists →
      IsDefined (some_true (map (map simple_truth) lists) env) →
      AllByRecursion HasAnswer (in_lists lists)
  lists_define [] is defined = tt
  lists_define (list ∷ lists) (is, others) defined =
      let here = all_true (map simple_truth list) env in
      let rest = some_true (map (map simple_truth) lists) env in
      let both = both_are (λ x y. x || y) here rest defined in
      each_append HasAnswer (in_list list) (in_lists lists) (list_defines list is both.0)
      (lists_define lists others both.1)

  lists_are_defined : (lists : List (List Simple)) →
      AllByRecursion (AllByRecursion SimpleIs) lists → AllByRecursion HasAnswer (in_lists lists) →
      IsDefined (some_true (map (map simple_truth) lists) env)
  lists_are_defined [] is all = (false, refl)
  lists_are_defined (list ∷ lists) (is, others) all =
      let here = all_true (map simple_truth list) env in
      let rest = some_true (map (map simple_truth) lists) env in
      let first = list_is_defined list is
      (first_half HasAnswer (in_list list) (in_lists lists) all) in
      let later = second_half HasAnswer (in_list list) (in_lists lists) all in
      are_both (λ x y. x || y) here rest first (lists_are_defined lists others later)

  cond_is : (lists : List (List Simple)) → AllByRecursion (AllByRecursion SimpleIs) lists →
      CondIs (cond_of lists)
  cond_is lists is = (
    λ defined.
        subst (AllByRecursion HasAnswer) (sym (comparisons-of lists))
        (lists_define lists is (subst IsDefined (truth-of lists env) defined)),
    λ all.
        subst IsDefined (sym (truth-of lists env))
        (lists_are_defined lists is (subst (AllByRecursion HasAnswer) (comparisons-of lists) all)),
  )

  pub defined_by_comparisons : (cond : Cond) → CondIs cond
  defined_by_comparisons = by_part SimpleIs CondIs
      (record { compare = compare_is; negation = negation_is; lists = cond_is })
