-- Conditions under readings that look up the same.
use Rattle.std.proofs.Common.{◌≡◌, Bool, List, [], ◌∷◌, refl, ap}
use Rattle.std.proofs.Common.{◌∙◌, arith}
use Rattle.std.specs.Prelude.{Option, option_and_then, Contains}
use Rattle.std.specs.List.{AllByRecursion}
use Rattle.std.proofs.lemmas.List.Elements.{recursion_from_All, All-contains_itself}
use Rattle.rn_value.specs.declared.value.Value.{Value}
use Rattle.rn_model.specs.declared.expr.CompareKind.{CompareKind}
use Rattle.rn_model.specs.declared.expr.Expr.{Expr}
use Rattle.rn_model.specs.Evaluation.{worth, comparison_of}
use Rattle.rn_model.specs.Good.{Comparison, comparisons_in}
use Rattle.rn_model.specs.ExpressionLaws.{TruthsLookUp}
use Rattle.rn_model.proofs.AskedValues.{contained_flat}
use Rattle.rn_model.proofs.EachElement.{each_weaker}
use Rattle.rn_model.proofs.ValuesLookUp.{values_look_up}
use Rattle.rn_model.proofs.ConditionsByComparisons.{compared, truth_by_comparisons}

-- what holds of whatever is in a list holds of each of its elements
pub each_in : {X : Type 0} (P : X → Type 0) (xs : List X) → ((x : X) → Contains xs x → P x) →
    AllByRecursion P xs
each_in P xs f =
    each_weaker (Contains xs) P f xs (recursion_from_All (Contains xs) xs (All-contains_itself xs))

-- the sides of a comparison
abbrev pub sides_of : Comparison → List Expr
sides_of c = c.left ∷ c.right ∷ []

-- the answer of a comparison of two values
abbrev pub answer_of : CompareKind → Option Value → Option Value → Option Bool
answer_of kind a b = option_and_then (λ v. option_and_then (comparison_of kind v) b) a

-- a condition has one truth under readings that are the same for all sides of its comparisons
pub truths_look_up : TruthsLookUp
truths_look_up cond env other same =
    truth_by_comparisons env other cond
    (each_in (λ c. compared env c ≡ compared other c) (comparisons_in cond) (λ c there.
    let read = λ (e : Expr) (side : Contains (sides_of c) e).
    values_look_up e env other
    (same e (contained_flat sides_of (comparisons_in cond) c e there side)) in
    ap (λ a. answer_of c.kind a (worth c.right env)) (read c.left (0, omega arith, refl))
    ∙ ap (answer_of c.kind (worth c.left other)) (read c.right (1, omega arith, refl))))
