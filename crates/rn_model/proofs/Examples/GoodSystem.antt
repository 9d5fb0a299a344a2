-- A system that is good: net main { place p = []; place q; trans t { in p; out q; } }
use Rattle.std.proofs.Common.{◌≡◌, ℕ, zero, suc, ◌<◌, ◌≤◌, Bool, false, [], ◌∷◌, length, get_or, refl, sym, ap, ◌∙◌, subst, arith}
use Rattle.std.specs.Prelude.{◌≢◌, None, All, AllPairs, Contains, IsTrue, codes}
use Rattle.std.proofs.lemmas.List.Elements.{All-nil, All-cons}
use Rattle.rn_value.specs.declared.value.Kind.{Kind, fold_out-Kind}
use Rattle.rn_value.specs.declared.value.Kind.TheVariants as Kind
use Rattle.rn_value.specs.declared.value.Value.{fold_out-Value}
use Rattle.rn_value.specs.declared.value.Value.TheVariants as Value
use Rattle.rn_model.specs.declared.expr.Expr.{Expr, fold_out-Expr}
use Rattle.rn_model.specs.declared.expr.Expr.TheVariants as E
use Rattle.rn_model.specs.declared.system.System.{System}
use Rattle.rn_model.specs.declared.system.Net.{Net}
use Rattle.rn_model.specs.declared.system.Place.{Place}
use Rattle.rn_model.specs.declared.system.Transition.{Transition}
use Rattle.rn_model.specs.declared.system.ArcKind.TheVariants.{Input, Output}
use Rattle.rn_value.specs.Words.{reserved_words}
use Rattle.rn_model.specs.Names.{IsGoodName}
use Rattle.rn_model.specs.Systems.{empty_transition, holds_action_var, var_kind_in}
use Rattle.rn_model.specs.Kinds.{HasExprKind, expr_or_var_step, kind_depth, kind_depth_step, value_depth, value_depth_step, expr_depth, expr_depth_step, kind_narrow, kind_narrow_step, value_narrow, value_narrow_step, expr_narrow, expr_narrow_step, holds_step, step_in_step, holds_instance, inst_in_step}
use Rattle.rn_model.specs.Good.{Good, IsGoodNet, IsGoodPlace, IsGoodKind, IsGoodToken, IsGoodTransition, IsGoodArc, IsCounted, HasItsVars, UsesActions, IsWellKinded, occurring}
use Rattle.rn_model.proofs.Examples.ExampleSystems.{black, arc_of}
use Rattle.rn_model.proofs.KindRules.{kind_rules}
use Rattle.rn_model.proofs.DerivationLemmas.{var_rules}
use Rattle.rn_model.proofs.EnablingLemmas.{not_in_nil}

abbrev blacks : Kind
blacks = Kind.Tuple []

abbrev empty : Expr
empty = E.Tuple []

depth_of_kind : kind_depth blacks ≡ 1
depth_of_kind = fold_out-Kind ℕ kind_depth_step blacks ∙ rw (Kind.outs-Tuple [])

narrow_kind : IsTrue (kind_narrow blacks)
narrow_kind = fold_out-Kind Bool kind_narrow_step blacks ∙ rw (Kind.outs-Tuple [])

depth_of_value : value_depth black ≡ 1
depth_of_value = fold_out-Value ℕ value_depth_step black ∙ rw (Value.outs-Tuple [])

narrow_value : IsTrue (value_narrow black)
narrow_value = fold_out-Value Bool value_narrow_step black ∙ rw (Value.outs-Tuple [])

no_instance : holds_instance black ≡ false
no_instance = fold_out-Value Bool inst_in_step black ∙ rw (Value.outs-Tuple [])

depth_of_expr : expr_depth empty ≡ 1
depth_of_expr = fold_out-Expr ℕ expr_depth_step empty ∙ rw (E.outs-Tuple [])

narrow_expr : IsTrue (expr_narrow empty)
narrow_expr = fold_out-Expr Bool expr_narrow_step empty ∙ rw (E.outs-Tuple [])

no_step : holds_step empty ≡ false
no_step = fold_out-Expr Bool step_in_step empty ∙ rw (E.outs-Tuple [])

kind_of_expr : (kinds : ℕ → Kind) → HasExprKind kinds empty blacks
kind_of_expr kinds = ap (λ f. f kinds blacks) (fold_out-Expr ((ℕ → Kind) → Kind → Bool) expr_or_var_step empty) ∙ rw (E.outs-Tuple [], Kind.outs-Tuple [])

good_kind : IsGoodKind blacks
good_kind = record { deep = rw depth_of_kind (omega arith); narrow = narrow_kind }

good_black : IsGoodToken blacks black
good_black = record { fits = simp kind_rules; apart = no_instance; deep = rw depth_of_value (omega arith); narrow = narrow_value }

named_p : IsGoodName (codes "p")
unfolding reserved_words
named_p = (refl, omega arith)

named_q : IsGoodName (codes "q")
unfolding reserved_words
named_q = (refl, omega arith)

named_t : IsGoodName (codes "t")
unfolding reserved_words
named_t = (refl, omega arith)

named_main : IsGoodName (codes "main")
unfolding reserved_words
named_main = (refl, omega arith)

abbrev p : Place
p = record { name = codes "p"; kind = blacks; initial = black ∷ []; max = None }

abbrev q : Place
q = record { name = codes "q"; kind = blacks; initial = []; max = None }

good_p : IsGoodPlace p
good_p = record { name = named_p; kind = good_kind; initial = All-cons (IsGoodToken blacks) black [] good_black (All-nil (IsGoodToken blacks)); many = omega arith; max = λ most e. absurd (let no : ⊥ = cc in no) }

good_q : IsGoodPlace q
good_q = record { name = named_q; kind = good_kind; initial = All-nil (IsGoodToken blacks); many = omega arith; max = λ most e. absurd (let no : ⊥ = cc in no) }

abbrev t : Transition
t = record empty_transition { name = codes "t"; arcs = arc_of Input 0 empty ∷ arc_of Output 1 empty ∷ [] }

abbrev main : Net
main = record { name = codes "main"; vars = []; places = p ∷ q ∷ []; transitions = t ∷ [] }

abbrev sys : System
sys = record { nets = main ∷ []; channels = [] }

none_occurs : occurring t ≡ []
none_occurs = simp var_rules

its_vars : HasItsVars t
its_vars = record {
  ascending = λ k h. absurd (let no : ⊥ = omega (arith, h) in no);
  vars = λ x. (λ h. absurd (not_in_nil x h), λ h. absurd (not_in_nil x (subst (λ xs. Contains xs x) none_occurs h.0)));
  actions_ascending = λ k h. absurd (let no : ⊥ = omega (arith, h) in no);
  action_vars = λ x. (λ h. absurd (not_in_nil x h), λ h. absurd (not_in_nil x h));
}

abbrev Unused : Expr → Type 0
Unused e = (holds_action_var t e ≡ false) × (holds_step e ≡ false)

uses : UsesActions t
uses = record {
  once = λ i j d below short. absurd (let no : ⊥ = omega (arith, below, short) in no);
  later = tt;
  searched = All-cons Unused empty [] (refl, no_step) (All-nil Unused);
  outputs = All-cons (λ e. holds_step e ≡ false) empty [] no_step (All-nil (λ e. holds_step e ≡ false));
  creations = All-nil _;
}

kinds : IsWellKinded sys main (var_kind_in main) t
kinds = record {
  equalities = All-nil _;
  guards = All-nil _;
  actions = All-nil _;
  creations = All-nil _;
  uplink = λ u e. absurd (let no : ⊥ = cc in no);
  downlinks = All-nil _;
  arcs = All-cons (IsGoodArc main (var_kind_in main)) (arc_of Input 0 empty) (arc_of Output 1 empty ∷ [])
      (record { place = omega arith; kind = kind_of_expr (var_kind_in main); clears = λ e. absurd (let no : ⊥ = cc in no) })
      (All-cons (IsGoodArc main (var_kind_in main)) (arc_of Output 1 empty) []
      (record { place = omega arith; kind = kind_of_expr (var_kind_in main); clears = λ e. absurd (let no : ⊥ = cc in no) }) (All-nil _));
}

abbrev Deep : Expr → Type 0
Deep e = expr_depth e ≤ 64

abbrev Narrow : Expr → Type 0
Narrow e = IsTrue (expr_narrow e)

good_t : IsGoodTransition sys main t
good_t = record {
  name = named_t;
  its_vars = its_vars;
  in_range = subst (All (λ x. x < length main.vars)) (sym none_occurs) (All-nil (λ x. x < length main.vars));
  uses = uses;
  kinds = kinds;
  deep = All-cons Deep empty (empty ∷ []) (rw depth_of_expr (omega arith)) (All-cons Deep empty [] (rw depth_of_expr (omega arith)) (All-nil Deep));
  guards_deep = All-nil _;
  narrow = All-cons Narrow empty (empty ∷ []) narrow_expr (All-cons Narrow empty [] narrow_expr (All-nil Narrow));
  many = omega arith;
  counted = All-cons (IsCounted main t) (arc_of Input 0 empty) (arc_of Output 1 empty ∷ []) (λ flex holds. refl)
      (All-cons (IsCounted main t) (arc_of Output 1 empty) [] (λ flex holds. refl) (All-nil (IsCounted main t)));
}

p_and_q : AllPairs (λ x y. x.name ≢ y.name) (p ∷ q ∷ [])
p_and_q zero zero d below short = absurd (let no : ⊥ = omega (arith, below) in no)
p_and_q zero (suc zero) d below short = λ e. let same : 112 ≡ 113 = ap (λ name. get_or name 0 0) e in let no : ⊥ = omega (arith, same) in no
p_and_q zero (suc (suc j)) d below short = absurd (let no : ⊥ = omega (arith, short) in no)
p_and_q (suc i) j d below short = absurd (let no : ⊥ = omega (arith, below, short) in no)

good_main : IsGoodNet sys main
good_main = record {
  name = named_main;
  vars = All-nil _;
  places = All-cons IsGoodPlace p (q ∷ []) good_p (All-cons IsGoodPlace q [] good_q (All-nil IsGoodPlace));
  transitions = All-cons (IsGoodTransition sys main) t [] good_t (All-nil (IsGoodTransition sys main));
  vars_distinct = λ i j d below short. absurd (let no : ⊥ = omega (arith, below, short) in no);
  places_distinct = p_and_q;
  transitions_distinct = λ i j d below short. absurd (let no : ⊥ = omega (arith, below, short) in no);
  few_vars = omega arith;
  few_places = omega arith;
  few_transitions = omega arith;
}

good : Good sys
good = record {
  main = refl;
  nets = All-cons (IsGoodNet sys) main [] good_main (All-nil (IsGoodNet sys));
  channels = All-nil _;
  nets_distinct = λ i j d below short. absurd (let no : ⊥ = omega (arith, below, short) in no);
  channels_distinct = λ i j d below short. absurd (let no : ⊥ = omega (arith, below, short) in no);
  few_nets = omega arith;
  few_channels = omega arith;
}
