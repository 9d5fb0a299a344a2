-- What is broken in expressions and conditions doesn't depend on spots, but for the spots that are
-- reported.
use Rattle.std.proofs.Common.{◌≡◌, ℕ, ◌&&◌, Bool, not, List, [], ◌∷◌, ◌++◌, map, refl, ap, ◌∙◌}
use Rattle.std.proofs.Math.Path.{fun_ext}
use Rattle.std.specs.Prelude.{flat_map, is_none, unwrap_or}
use Rattle.std.proofs.lemmas.List.{map-id}
use Rattle.rn_notation.specs.declared.token.Spot.{Spot}
use Rattle.rn_model.specs.Limits.{most_parts}
use Rattle.rn_model.specs.declared.expr.CompareKind.{CompareKind}
use Rattle.rn_model.specs.declared.expr.CompareKind.TheVariants.{Same, Differs, Less, AtMost, Greater, AtLeast}
use Rattle.rn_inscript.specs.declared.exprs.PExpr.{PExpr, fold_out-PExpr, out-PExpr, out-roll-PExpr}
use Rattle.rn_inscript.specs.declared.exprs.PForm.{PForm, fold-PForm, fold_out-PForm, map-PForm, out-PForm, out-roll-PForm, roll-PForm}
use Rattle.rn_inscript.specs.declared.exprs.PForm.TheOpen as O
use Rattle.rn_inscript.specs.declared.conds.PCond.{PCond}
use Rattle.rn_declared.specs.declared.fault.Rule.TheVariants as Rule
use Rattle.rn_declared.specs.declared.fault.Fault.{Fault}
use Rattle.rn_declared.specs.declared.pattern.Pattern.{Pattern}
use Rattle.rn_declared.specs.declared.pattern.Pattern.TheVariants as Pattern
use Rattle.rn_declared.specs.Faults.{broken, broken_if, past_limit}
use Rattle.rn_declared.specs.Patterns.{share, both_of}
use Rattle.rn_rules.specs.Expressions.{Where, Seen, is_whole, apart, whole, misfit, variable_faults, with_element, with_elements, listed, tuple_of, operand_faults, operands_faults, seen_form, seen_of}
use Rattle.rn_rules.specs.Conditions.{sides_faults, compared_faults, bare_faults, simple_faults, condition_faults}
use Rattle.rn_rules.specs.Counted.{holds_form, holds_name}
use Rattle.rn_rules.specs.Arcs.{is_name, is_variable}
use Rattle.rn_print.specs.SameButSpots.{first_spot, expr_unplaced, expr_moved, cond_unplaced}
use Rattle.rn_migrate.proofs.Folds.{Steps, expr_fold, cond_fold}
use Rattle.rn_migrate.proofs.MovedFaults.{all_moved, each, kept, both, flat, if_so, if_same, limit_of}

-- an expression as the rules see it, with its spots at the first byte
abbrev pub seen_moved : Seen → Seen
seen_moved seen =
    record { spot = first_spot; faults = all_moved seen.faults; pattern = seen.pattern }

whole_moved : (faults : List Fault) → is_whole (all_moved faults) ≡ is_whole faults
whole_moved [] = refl
whole_moved (f ∷ fs) = refl

pub apart_moved : (a b : Seen) (s : Spot) →
    apart (seen_moved a) (seen_moved b) first_spot ≡ all_moved (apart a b s)
apart_moved a b s =
    let no = not (share a.pattern b.pattern) in
    if_same (is_whole a.faults && is_whole b.faults && no)
    (is_whole (all_moved a.faults) && is_whole (all_moved b.faults) && no) Rule.Kinds s
    (ap (λ w. w && is_whole (all_moved b.faults) && no) (whole_moved a.faults)
    ∙ ap (λ w. is_whole a.faults && w && no) (whole_moved b.faults))

pub misfit_moved : (a : Seen) (pattern : Pattern) →
    misfit (seen_moved a) pattern ≡ all_moved (misfit a pattern)
misfit_moved a pattern = apart_moved (whole a.spot pattern) a a.spot

pub variable_moved : (place : Where) (name : List ℕ) (s : Spot) →
    variable_faults place name first_spot ≡ all_moved (variable_faults place name s)
variable_moved place name s =
    let unknown = is_none (place.pattern_of_var name) in
    let early = not (place.may_stand name) in
    both (broken_if unknown Rule.Known s) (broken_if early Rule.Actions s)
    (broken_if unknown Rule.Known first_spot) (broken_if early Rule.Actions first_spot)
    (if_so unknown Rule.Known s) (if_so early Rule.Actions s)

abbrev seen_made : List Fault → Pattern → Seen
seen_made faults pattern = record { spot = first_spot; faults = faults; pattern = pattern }

element_moved : (before e : Seen) →
    with_element (seen_moved before) (seen_moved e) ≡ seen_moved (with_element before e)
unfolding with_element
element_moved before e =
    ap (λ faults. seen_made faults (both_of before.pattern e.pattern))
    (both before.faults (e.faults ++ apart before e e.spot) (all_moved before.faults)
    (all_moved e.faults ++ apart (seen_moved before) (seen_moved e) first_spot) refl
    (both e.faults (apart before e e.spot) (all_moved e.faults)
    (apart (seen_moved before) (seen_moved e) first_spot) refl (apart_moved before e e.spot)))

elements_moved : (before : Seen) (es : List Seen) →
    with_elements (seen_moved before) (map seen_moved es) ≡ seen_moved (with_elements before es)
unfolding with_elements
elements_moved before [] = refl
elements_moved before (e ∷ es) =
    ap (λ b. with_elements b (map seen_moved es)) (element_moved before e)
    ∙ elements_moved (with_element before e) es

listed_moved : (elements : Seen) → listed (seen_moved elements) ≡ seen_moved (listed elements)
unfolding listed
listed_moved elements = refl

tuple_moved : (s : Spot) (parts : List Seen) →
    tuple_of first_spot (map seen_moved parts) ≡ seen_moved (tuple_of s parts)
unfolding tuple_of
tuple_moved s parts =
    let faults = flat_map (λ (e : Seen). e.faults) in
    let many = λ (es : List Seen). past_limit most_parts (map (λ (e : Seen). e.spot) es) in
    ap (λ faults. seen_made faults (Pattern.Tuple (map (λ (e : Seen). e.pattern) (map seen_moved parts))))
    (both (faults parts) (many parts) (faults (map seen_moved parts)) (many (map seen_moved parts))
    (flat (λ (e : Seen). e.faults) (λ (e : Seen). e.faults) seen_moved parts (λ e. refl))
    (limit_of most_parts (λ (e : Seen). e.spot) (λ (e : Seen). e.spot) seen_moved parts (λ e. refl)))
    ∙ ap (λ ps. seen_made (all_moved (faults parts ++ many parts)) (Pattern.Tuple ps))
    (kept (λ (e : Seen). e.pattern) seen_moved parts (λ e. refl))

pub operand_moved : (a : Seen) → operand_faults (seen_moved a) ≡ all_moved (operand_faults a)
unfolding operand_faults
operand_moved a =
    both a.faults (misfit a Pattern.Int) (all_moved a.faults) (misfit (seen_moved a) Pattern.Int)
    refl (misfit_moved a Pattern.Int)

pub operands_moved : (a b : Seen) →
    operands_faults (seen_moved a) (seen_moved b) ≡ all_moved (operands_faults a b)
unfolding operands_faults
operands_moved a b =
    both (operand_faults a) (operand_faults b) (operand_faults (seen_moved a))
    (operand_faults (seen_moved b)) (operand_moved a) (operand_moved b)

abbrev Parts : Type 0
Parts = Where → Seen

abbrev Forms : Type 0
Forms = Spot → Where → Seen

abbrev parts_moved : Parts → Parts
parts_moved seen place = seen_moved (seen place)

abbrev SameForms : Forms → Forms → Type 0
SameForms x z = (s : Spot) (place : Where) → z first_spot place ≡ seen_moved (x s place)

placed : (place : Where) (parts : List Parts) →
    map (λ part. part place) (map parts_moved parts) ≡ map seen_moved (map (λ part. part place) parts)
placed place parts =
    each (λ part. part place) (λ part. part place) parts_moved seen_moved parts (λ part. refl)

seen_form_moved : (y : O.PForm-F Forms Parts) →
    SameForms (seen_form y) (seen_form (map-PForm Forms Parts Forms Parts (λ x. x) parts_moved y))
seen_form_moved (O.Int n) s place = refl
seen_form_moved (O.Text t) s place = refl
seen_form_moved (O.Name name) s place =
    ap (λ faults. seen_made faults (unwrap_or (place.pattern_of_var name) Pattern.Any))
    (variable_moved place name s)
seen_form_moved O.This s place = refl
seen_form_moved O.Step s place =
    ap (λ faults. seen_made faults Pattern.Int)
    (if_so (not place.step_may) Rule.Actions s)
seen_form_moved (O.Tuple parts) s place =
    ap (tuple_of first_spot) (placed place parts)
    ∙ tuple_moved s (map (λ part. part place) parts)
seen_form_moved (O.List parts) s place =
    let es = map (λ part. part place) parts in
    ap (λ es. listed (with_elements (whole first_spot Pattern.Any) es)) (placed place parts)
    ∙ ap listed (elements_moved (whole s Pattern.Any) es)
    ∙ listed_moved (with_elements (whole s Pattern.Any) es)
seen_form_moved (O.Cons parts tail) s place =
    let es = map (λ part. part place) parts in
    let list = listed (with_elements (whole s Pattern.Any) es) in
    ap (λ es. with_element (listed (with_elements (whole first_spot Pattern.Any) es))
    (seen_moved (tail place))) (placed place parts)
    ∙ ap (λ l. with_element l (seen_moved (tail place)))
    (ap listed (elements_moved (whole s Pattern.Any) es)
    ∙ listed_moved (with_elements (whole s Pattern.Any) es))
    ∙ element_moved list (tail place)
seen_form_moved (O.Neg a) s place =
    ap (λ faults. seen_made faults Pattern.Int)
    (operand_moved (a place))
seen_form_moved (O.Op op a b) s place =
    ap (λ faults. seen_made faults Pattern.Int)
    (operands_moved (a place) (b place))

expr_moved_to : (e : PExpr) → seen_of (expr_unplaced e) ≡ parts_moved (seen_of e)
expr_moved_to =
    expr_fold Forms Parts seen_form (λ e. e.form e.spot) SameForms parts_moved seen_form_moved
    (λ s x z is. fun_ext (λ place. is s place))

pub seen_moved_to : (e : PExpr) (place : Where) →
    seen_of (expr_unplaced e) place ≡ seen_moved (seen_of e place)
seen_moved_to e place = ap (λ f. f place) (expr_moved_to e)

-- which names an expression holds, and whether it is a variable
pub expr_ids : (A B : Type 0) (y : O.PForm-F A B) → map-PForm A B A B (λ x. x) (λ x. x) y ≡ y
expr_ids A B (O.Int n) = refl
expr_ids A B (O.Text s) = refl
expr_ids A B (O.Name s) = refl
expr_ids A B O.This = refl
expr_ids A B O.Step = refl
expr_ids A B (O.Tuple parts) = ap (λ es. O.Tuple es) (map-id parts)
expr_ids A B (O.List parts) = ap (λ es. O.List es) (map-id parts)
expr_ids A B (O.Cons parts tail) = ap (λ es. O.Cons es tail) (map-id parts)
expr_ids A B (O.Neg a) = refl
expr_ids A B (O.Op op a b) = refl

pub holds_kept : (e : PExpr) → holds_name (expr_unplaced e) ≡ holds_name e
holds_kept =
    let A = (List ℕ → Bool) → Bool in
    expr_fold A A holds_form (λ e. e.form) (λ x z. z ≡ x) (λ x. x)
    (λ y. ap holds_form (expr_ids A A y)) (λ s x z is. is)

abbrev bare_form : PForm → PForm
bare_form = fold-PForm PForm PExpr roll-PForm expr_moved

name_kept : (y : O.PForm-F PForm PExpr) →
    is_name (map-PForm PForm PExpr PForm PExpr bare_form expr_unplaced y) ≡ is_name y
name_kept (O.Int n) = refl
name_kept (O.Text s) = refl
name_kept (O.Name s) = refl
name_kept O.This = refl
name_kept O.Step = refl
name_kept (O.Tuple parts) = refl
name_kept (O.List parts) = refl
name_kept (O.Cons parts tail) = refl
name_kept (O.Neg a) = refl
name_kept (O.Op op a b) = refl

pub variable_kept : (e : PExpr) → is_variable (expr_unplaced e) ≡ is_variable e
variable_kept e =
    ap is_name (ap (λ x. out-PForm (out-PExpr x).form) (fold_out-PExpr PForm PExpr roll-PForm expr_moved e)
    ∙ ap (λ x. out-PForm x.form)
    (out-roll-PExpr (record { form = bare_form (out-PExpr e).form; spot = first_spot }))
    ∙ ap out-PForm (fold_out-PForm PForm PExpr roll-PForm expr_moved (out-PExpr e).form)
    ∙ out-roll-PForm _)
    ∙ name_kept (out-PForm (out-PExpr e).form)

-- conditions
sides_moved : (a b : Seen) → sides_faults (seen_moved a) (seen_moved b) ≡ all_moved (sides_faults a b)
unfolding sides_faults
sides_moved a b =
    both (a.faults ++ b.faults) (apart a b a.spot) (all_moved a.faults ++ all_moved b.faults)
    (apart (seen_moved a) (seen_moved b) first_spot)
    (both a.faults b.faults (all_moved a.faults) (all_moved b.faults) refl refl)
    (apart_moved a b a.spot)

pub sides_moved_to : (a b : PExpr) (place : Where) →
    sides_faults (seen_of (expr_unplaced a) place) (seen_of (expr_unplaced b) place)
    ≡ all_moved (sides_faults (seen_of a place) (seen_of b place))
sides_moved_to a b place =
    ap (λ s. sides_faults s (seen_of (expr_unplaced b) place)) (seen_moved_to a place)
    ∙ ap (sides_faults (seen_moved (seen_of a place))) (seen_moved_to b place)
    ∙ sides_moved (seen_of a place) (seen_of b place)

compared_moved : (kind : CompareKind) (a b : Seen) →
    compared_faults kind (seen_moved a) (seen_moved b) ≡ all_moved (compared_faults kind a b)
compared_moved Same a b = sides_moved a b
compared_moved Differs a b = sides_moved a b
compared_moved Less a b = operands_moved a b
compared_moved AtMost a b = operands_moved a b
compared_moved Greater a b = operands_moved a b
compared_moved AtLeast a b = operands_moved a b

bare_moved : (e : Seen) → bare_faults (seen_moved e) ≡ all_moved (bare_faults e)
unfolding bare_faults
bare_moved e =
    both e.faults (broken Rule.Comparison e.spot ∷ []) (all_moved e.faults)
    (broken Rule.Comparison first_spot ∷ []) refl refl

abbrev Told : Type 0
Told = Where → List Fault

abbrev told_moved : Told → Told
told_moved told place = all_moved (told place)

inner_moved : (place : Where) (simples : List Told) →
    flat_map (λ simple. simple place) (map told_moved simples)
    ≡ all_moved (flat_map (λ simple. simple place) simples)
inner_moved place simples =
    flat (λ simple. simple place) (λ simple. simple place) told_moved simples (λ simple. refl)

steps : Steps Told Told simple_faults
    (λ cond place. flat_map (λ simples. flat_map (λ simple. simple place) simples) cond.any)
    told_moved told_moved
steps = record {
  compared = λ kind x y. fun_ext (λ place.
      ap (λ s. compared_faults kind s (seen_of (expr_unplaced y) place)) (seen_moved_to x place)
      ∙ ap (compared_faults kind (seen_moved (seen_of x place))) (seen_moved_to y place)
      ∙ compared_moved kind (seen_of x place) (seen_of y place));
  bare = λ x. fun_ext (λ place.
      ap bare_faults (seen_moved_to x place) ∙ bare_moved (seen_of x place));
  negated = λ c. refl;
  joined = λ any. fun_ext (λ place.
      flat (λ simples. flat_map (λ simple. simple place) simples)
      (λ simples. flat_map (λ simple. simple place) simples) (map told_moved) any (inner_moved place));
}

pub condition_moved : (c : PCond) (place : Where) →
    condition_faults (cond_unplaced c) place ≡ all_moved (condition_faults c place)
condition_moved c place = ap (λ f. f place) (cond_fold Told Told simple_faults
    (λ cond place. flat_map (λ simples. flat_map (λ simple. simple place) simples) cond.any)
    told_moved told_moved steps c)
