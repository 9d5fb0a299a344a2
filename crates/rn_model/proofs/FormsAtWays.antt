-- The form of an expression at a way, which at the way of a hole is the hole's.
use Rattle.std.proofs.Common.{◌≡◌, ℕ, suc, ◌+◌, List, [], ◌∷◌, ◌++◌, map, refl, sym, ap, ◌∙◌, subst, arith}
use Rattle.std.specs.Prelude.{Option, Some, None, option_map, option_and_then, slice_get}
use Rattle.std.specs.List.{AllByRecursion}
use Rattle.std.proofs.lemmas.Option.{option_and_then_some}
use Rattle.rn_items.proofs.Options.{option_map_some}
use Rattle.rn_value.specs.declared.value.Value.{Value}
use Rattle.rn_value.specs.declared.value.Value.TheVariants as Value
use Rattle.rn_model.specs.declared.expr.Expr.{Expr, roll-Expr, map-Expr, fold-roll-Expr, para-Expr, para-roll-Expr, ind-Expr}
use Rattle.rn_model.specs.declared.expr.Expr.TheVariants as Expr
use Rattle.rn_model.specs.declared.expr.Expr.TheOpen as O
use Rattle.rn_model.specs.Evaluation.{Env, worth, worth_step, worths, list_onto}
use Rattle.rn_model.specs.Derivation.{Hole, holes_in, holes_step, holes_of_parts, within_part}
use Rattle.rn_model.proofs.EvaluationLemmas.{worth-Neg, worth-Op}
use Rattle.rn_model.proofs.EachElement.{each_append, each_map, each_weaker}

-- an expression, and the form in it at each way
abbrev Formed : Type 0
Formed = Expr × (List ℕ → Option Expr)

-- the form at a way that begins with the index of a part
abbrev form_in : List Formed → List ℕ → Option Expr
form_in parts [] = None
form_in parts (i ∷ way) = option_and_then (λ part. part.1 way) (slice_get parts i)

-- the form itself, at the end of a way
abbrev form_here : Expr → List ℕ → Option Expr
form_here e [] = Some e
form_here e (i ∷ way) = None

abbrev form_step : O.Expr-F Formed → List ℕ → Option Expr
form_step (O.Tuple parts) = form_in parts
form_step (O.List parts) = form_in parts
form_step (O.Cons parts tail) = form_in (parts ++ tail ∷ [])
form_step (O.Neg part) = form_here (Expr.Neg part.0)
form_step (O.Op kind a b) = form_here (Expr.Op kind a.0 b.0)
form_step _ = λ way. None

-- the operator application in an expression at a way
abbrev pub form_at : Expr → List ℕ → Option Expr
form_at = para-Expr (List ℕ → Option Expr) form_step

abbrev pub IsFormOf : (List ℕ → Option Expr) → Hole → Type 0
IsFormOf form hole = form hole.way ≡ Some hole.form

abbrev pub HasWorth : Env → Hole → Type 0
HasWorth env hole = (v : Value) × (worth hole.form env ≡ Some v)

-- each hole is found, and has a value where the whole has one
pub record HasItsHoles (e : Expr) : Type 0 where
  pub forms : AllByRecursion (IsFormOf (form_at e)) (holes_in e)
  pub worths : (env : Env) (v : Value) → worth e env ≡ Some v → AllByRecursion (HasWorth env) (holes_in e)

abbrev Part : Type 0
Part = (e : Expr) × HasItsHoles e

abbrev exprs : List Part → List Expr
exprs parts = map (λ e. e.0) parts

abbrev with_holes : Expr → Expr × List Hole
with_holes e = (e, holes_in e)

abbrev with_forms : Expr → Formed
with_forms e = (e, form_at e)

-- these parts stand from index i on
abbrev StandFrom : List Formed → ℕ → List Part → Type 0
StandFrom all i parts = (k : ℕ) (x : Formed) → slice_get (map with_forms (exprs parts)) k ≡ Some x → slice_get all (i + k) ≡ Some x

forms_of_parts : (all : List Formed) (i : ℕ) (parts : List Part) → StandFrom all i parts → AllByRecursion (IsFormOf (form_in all)) (holes_of_parts i (map with_holes (exprs parts)))
forms_of_parts all i [] s = tt
forms_of_parts all i (part ∷ parts) s =
    let place : i + 0 ≡ i = omega arith in
    let here : slice_get all i ≡ Some (with_forms part.0) = subst (λ j. slice_get all j ≡ Some (with_forms part.0)) place (s 0 (with_forms part.0) refl) in
    let first : AllByRecursion (λ hole. IsFormOf (form_in all) (within_part i hole)) (holes_in part.0) =
    each_weaker (IsFormOf (form_at part.0)) (λ hole. IsFormOf (form_in all) (within_part i hole)) (λ hole is. rw here is) (holes_in part.0) part.1.forms in
    let others : StandFrom all (i + 1) parts = λ k x e. let after : i + suc k ≡ (i + 1) + k = omega arith in subst (λ j. slice_get all j ≡ Some x) after (s (suc k) x e) in
    each_append (IsFormOf (form_in all)) (map (within_part i) (holes_in part.0)) (holes_of_parts (i + 1) (map with_holes (exprs parts)))
    (each_map (IsFormOf (form_in all)) (within_part i) (holes_in part.0) first) (forms_of_parts all (i + 1) parts others)

stand_from_first : (parts : List Part) → StandFrom (map with_forms (exprs parts)) 0 parts
stand_from_first parts k x e = let place : k ≡ 0 + k = omega arith in subst (λ j. slice_get (map with_forms (exprs parts)) j ≡ Some x) place e

one_more : {B : Type 0} (f : Expr → B) (parts : List Part) (last : Part) → map f (exprs (parts ++ last ∷ [])) ≡ map f (exprs parts) ++ f last.0 ∷ []
one_more f [] last = refl
one_more f (part ∷ parts) last = ap (λ rest. f part.0 ∷ rest) (one_more f parts last)

worths_of_parts : (parts : List Part) (i : ℕ) (env : Env) (vs : List Value) → worths (map worth (exprs parts)) env ≡ Some vs → AllByRecursion (HasWorth env) (holes_of_parts i (map with_holes (exprs parts)))
worths_of_parts [] i env vs e = tt
worths_of_parts (part ∷ parts) i env vs e =
    option_and_then_some (λ v. option_map (λ ws. v ∷ ws) (worths (map worth (exprs parts)) env)) (worth part.0 env) vs e (λ v first rest.
    option_map_some (λ ws. v ∷ ws) (worths (map worth (exprs parts)) env) vs rest (λ ws others _.
    each_append (HasWorth env) (map (within_part i) (holes_in part.0)) (holes_of_parts (i + 1) (map with_holes (exprs parts)))
    (each_map (HasWorth env) (within_part i) (holes_in part.0) (part.1.worths env v first)) (worths_of_parts parts (i + 1) env ws others)))

abbrev plain : O.Expr-F Part → O.Expr-F Expr
plain = map-Expr Part Expr (λ e. e.0)

abbrev holes_of : O.Expr-F Part → List Hole
holes_of y = holes_step (map-Expr Expr (Expr × List Hole) with_holes (plain y))

abbrev forms_of : O.Expr-F Part → List ℕ → Option Expr
forms_of y = form_step (map-Expr Expr Formed with_forms (plain y))

form_layer : (y : O.Expr-F Part) → AllByRecursion (IsFormOf (forms_of y)) (holes_of y)
form_layer (O.Int n) = tt
form_layer (O.Text s) = tt
form_layer (O.Var x) = tt
form_layer O.This = tt
form_layer O.Step = tt
form_layer (O.Tuple parts) = forms_of_parts (map with_forms (exprs parts)) 0 parts (stand_from_first parts)
form_layer (O.List parts) = forms_of_parts (map with_forms (exprs parts)) 0 parts (stand_from_first parts)
form_layer (O.Cons parts tail) =
    subst (λ all. AllByRecursion (IsFormOf (form_in all)) (holes_of (O.Cons parts tail))) (one_more with_forms parts tail)
    (subst (λ holes. AllByRecursion (IsFormOf (form_in (map with_forms (exprs (parts ++ tail ∷ []))))) (holes_of_parts 0 holes)) (one_more with_holes parts tail)
    (forms_of_parts (map with_forms (exprs (parts ++ tail ∷ []))) 0 (parts ++ tail ∷ []) (stand_from_first (parts ++ tail ∷ []))))
form_layer (O.Neg part) = (refl, tt)
form_layer (O.Op kind a b) = (refl, tt)

-- the holes of parts, of which the last is the tail of a list
worths_with_last : (parts : List Part) (last : Part) (i : ℕ) (env : Env) (vs : List Value) (w : Value) → worths (map worth (exprs parts)) env ≡ Some vs → worth last.0 env ≡ Some w →
    AllByRecursion (HasWorth env) (holes_of_parts i (map with_holes (exprs parts) ++ with_holes last.0 ∷ []))
worths_with_last [] last i env vs w e f =
    each_append (HasWorth env) (map (within_part i) (holes_in last.0)) [] (each_map (HasWorth env) (within_part i) (holes_in last.0) (last.1.worths env w f)) tt
worths_with_last (part ∷ parts) last i env vs w e f =
    option_and_then_some (λ v. option_map (λ ws. v ∷ ws) (worths (map worth (exprs parts)) env)) (worth part.0 env) vs e (λ v first rest.
    option_map_some (λ ws. v ∷ ws) (worths (map worth (exprs parts)) env) vs rest (λ ws others _.
    each_append (HasWorth env) (map (within_part i) (holes_in part.0)) (holes_of_parts (i + 1) (map with_holes (exprs parts) ++ with_holes last.0 ∷ []))
    (each_map (HasWorth env) (within_part i) (holes_in part.0) (part.1.worths env v first)) (worths_with_last parts last (i + 1) env ws w others f)))

worth_layer : (y : O.Expr-F Part) (env : Env) (v : Value) → worth_step (map-Expr Expr (Env → Option Value) worth (plain y)) env ≡ Some v → AllByRecursion (HasWorth env) (holes_of y)
worth_layer (O.Int n) env v e = tt
worth_layer (O.Text s) env v e = tt
worth_layer (O.Var x) env v e = tt
worth_layer O.This env v e = tt
worth_layer O.Step env v e = tt
worth_layer (O.Tuple parts) env v e = option_map_some (λ vs. Value.Tuple vs) (worths (map worth (exprs parts)) env) v e (λ vs each _. worths_of_parts parts 0 env vs each)
worth_layer (O.List parts) env v e = option_map_some (λ vs. Value.List vs) (worths (map worth (exprs parts)) env) v e (λ vs each _. worths_of_parts parts 0 env vs each)
worth_layer (O.Cons parts tail) env v e =
    option_and_then_some (λ vs. option_and_then (list_onto vs) (worth tail.0 env)) (worths (map worth (exprs parts)) env) v e (λ vs each rest.
    option_and_then_some (list_onto vs) (worth tail.0 env) v rest (λ w last joined.
    worths_with_last parts tail 0 env vs w each last))
worth_layer (O.Neg part) env v e = ((v, worth-Neg part.0 env ∙ e), tt)
worth_layer (O.Op kind a b) env v e = ((v, worth-Op kind a.0 b.0 env ∙ e), tt)

-- each hole of an expression is found at its way, and has a value where the expression has one
pub holes_of_expr : (e : Expr) → HasItsHoles e
holes_of_expr = ind-Expr HasItsHoles (λ x y is.
    let AtHoles : (O.Expr-F Expr) → Type 0 = λ z. AllByRecursion (IsFormOf (form_step (map-Expr Expr Formed with_forms z))) (holes_step (map-Expr Expr (Expr × List Hole) with_holes z)) in
    let forms_here : AtHoles x = subst AtHoles is (form_layer y) in
    let holes_are : holes_in (roll-Expr x) ≡ holes_step (map-Expr Expr (Expr × List Hole) with_holes x) = para-roll-Expr (List Hole) holes_step x in
    let forms_are : form_at (roll-Expr x) ≡ form_step (map-Expr Expr Formed with_forms x) = para-roll-Expr (List ℕ → Option Expr) form_step x in
    let Valued : (O.Expr-F Expr) → Type 0 = λ z. (env : Env) (v : Value) → worth_step (map-Expr Expr (Env → Option Value) worth z) env ≡ Some v → AllByRecursion (HasWorth env) (holes_step (map-Expr Expr (Expr × List Hole) with_holes z)) in
    let worths_here : Valued x = subst Valued is (worth_layer y) in
    record {
      forms = subst (λ form. AllByRecursion (IsFormOf form) (holes_in (roll-Expr x))) (sym forms_are) (subst (AllByRecursion (IsFormOf (form_step (map-Expr Expr Formed with_forms x)))) (sym holes_are) forms_here);
      worths = λ env v e.
          let valued : worth_step (map-Expr Expr (Env → Option Value) worth x) env ≡ Some v = ap (λ g. g env) (sym (fold-roll-Expr (Env → Option Value) worth_step x)) ∙ e in
          subst (AllByRecursion (HasWorth env)) (sym holes_are) (worths_here env v valued);
    })
