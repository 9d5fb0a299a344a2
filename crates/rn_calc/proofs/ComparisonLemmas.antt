-- The comparisons in the parts of a condition are among those of the whole.
use Rattle.std.proofs.Common.{◌≡◌, List, [], ◌∷◌, map, refl, sym, ap, ◌∙◌, subst, arith}
use Rattle.std.proofs.Math.Path.{fun_ext}
use Rattle.std.proofs.lemmas.List.Folds.{flat_map-map}
use Rattle.std.specs.Prelude.{Contains, flat_map}
use Rattle.rn_model.specs.declared.expr.CompareKind.{CompareKind}
use Rattle.rn_model.specs.declared.expr.Expr.{Expr}
use Rattle.rn_model.specs.declared.expr.Cond.{Cond, Cond-F, fold_out-Cond}
use Rattle.rn_model.specs.declared.expr.Simple.{Simple, out-Simple, map-Simple, fold_out-Simple}
use Rattle.rn_model.specs.declared.expr.Simple.TheVariants as Simple
use Rattle.rn_model.specs.Evaluation.{Env}
use Rattle.rn_model.specs.Good.{Comparison, comparisons_in, comparisons_step}
use Rattle.rn_model.proofs.AskedValues.{contained_flat}
use Rattle.rn_calc.specs.FitComparisons.{AreFit, ComparisonsAreFit, IsFitComparison}
use Rattle.rn_calc.specs.FitComparisons.{comparisons_of}

abbrev joined : Cond-F (List Comparison) (List Comparison) → List Comparison
joined cond = flat_map (λ list. flat_map (λ c. c) list) cond.any

out : (x : Simple) →
    comparisons_of x
    ≡ comparisons_step
    (map-Simple Simple Cond (List Comparison) (List Comparison) comparisons_of comparisons_in
    (out-Simple x))
out x = fold_out-Simple (List Comparison) (List Comparison) comparisons_step joined x

of_Compare : (kind : CompareKind) (a b : Expr) →
    comparisons_of (Simple.Compare kind a b) ≡ (record { kind = kind; left = a; right = b }) ∷ []
of_Compare kind a b = out (Simple.Compare kind a b) ∙ rw (Simple.outs-Compare kind a b)

of_Not : (cond : Cond) → comparisons_of (Simple.Not cond) ≡ comparisons_in cond
of_Not cond = out (Simple.Not cond) ∙ rw (Simple.outs-Not cond)

in_lists : (cond : Cond) →
    comparisons_in cond ≡ flat_map (flat_map comparisons_of) cond.any
in_lists cond =
    fold_out-Cond (List Comparison) (List Comparison) comparisons_step joined cond
    ∙ flat_map-map (λ list. flat_map (λ c. c) list) (map comparisons_of) cond.any
    ∙ ap (λ f. flat_map f cond.any)
    (fun_ext (λ list. flat_map-map (λ c. c) comparisons_of list))

module _ (env : Env) where
  -- the comparisons of one list of a condition are fit where those of the condition are
  pub list_fit : (cond : Cond) (list : List Simple) → Contains cond.any list →
      ComparisonsAreFit env cond → AreFit env (flat_map comparisons_of list)
  list_fit cond list has fit c there =
      fit c (subst (λ cs. Contains cs c) (sym (in_lists cond))
      (contained_flat (flat_map comparisons_of) cond.any list c has there))

  -- and those of one in the list
  pub simple_fit : (simples : List Simple) (x : Simple) → Contains simples x →
      AreFit env (flat_map comparisons_of simples) → AreFit env (comparisons_of x)
  simple_fit simples x has fit c there =
      fit c (contained_flat comparisons_of simples x c has there)

  pub negation_fit : (cond : Cond) → AreFit env (comparisons_of (Simple.Not cond)) →
      ComparisonsAreFit env cond
  negation_fit cond fit = subst (AreFit env) (of_Not cond) fit

  pub compare_fit : (kind : CompareKind) (a b : Expr) →
      AreFit env (comparisons_of (Simple.Compare kind a b)) →
      IsFitComparison env (record { kind = kind; left = a; right = b })
  compare_fit kind a b fit =
      subst (AreFit env) (of_Compare kind a b) fit
      (record { kind = kind; left = a; right = b }) (0, omega arith, refl)
