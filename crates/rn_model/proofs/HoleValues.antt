-- What operator applications are worth, and what only a variable or `this` is worth.
use Rattle.std.proofs.Common.{◌≡◌, ℕ, ℤ, pos, negsuc, ◌+◌, ◌-◌, ◌^◌, ◌&&◌, Bool, true, false, List, [], ◌∷◌, ◌++◌, map, sym, ap, ◌∙◌, subst}
use Rattle.std.specs.Prelude.{◌+ℤ◌, ◌-ℤ◌, ◌*ℤ◌, neg_ℤ, int_le, int_div, int_rem, Option, Some, None, option_map, option_and_then, unwrap_or, if◌then◌else◌}
use Rattle.std.specs.Ordering.{int_eq}
use Rattle.std.specs.List.{AllByRecursion}
use Rattle.std.proofs.lemmas.Option.{same_Some}
use Rattle.rn_value.specs.Kinds.{HasKind, value_has_kind, kind_step}
use Rattle.rn_value.specs.declared.value.Kind.{Kind, out-Kind}
use Rattle.rn_value.specs.declared.value.Kind.TheVariants as Kind
use Rattle.rn_value.specs.declared.value.Kind.TheOpen as K
use Rattle.rn_value.specs.declared.value.InstRef.{InstRef}
use Rattle.rn_value.specs.declared.value.Value.{Value, out-Value, roll-Value, map-Value, fold-roll-Value, out-roll-Value, ind-Value}
use Rattle.rn_value.specs.declared.value.Value.TheVariants as Value
use Rattle.rn_value.specs.declared.value.Value.TheOpen as V
use Rattle.rn_model.specs.declared.expr.Expr.{Expr, map-Expr, fold-roll-Expr, para-roll-Expr, ind-Expr}
use Rattle.rn_model.specs.declared.expr.Expr.TheOpen as O
use Rattle.rn_model.specs.declared.expr.OpKind.{OpKind}
use Rattle.rn_model.specs.declared.expr.OpKind.TheVariants.{Add, Sub, Mul, Div, Rem}
use Rattle.rn_model.specs.Evaluation.{Env, worth, worth_step, worths, list_onto, list_of, list_step, op_value, neg_value, int_of, int_value, int_result}
use Rattle.rn_model.specs.Demands.{elements}
use Rattle.rn_model.specs.Derivation.{Unknowns, term_value, term_step, Hole, holes_in, holes_step, holes_of_parts, within_part}
use Rattle.rn_model.proofs.EvaluationLemmas.{worth-Neg, worth-Op}
use Rattle.rn_model.proofs.EachElement.{each_append, each_map}
use Rattle.rn_model.proofs.ReadingLemmas.{Sees}

abbrev pub IsInt : Value → Type 0
IsInt v = (z : ℤ) × (v ≡ Value.Int z)

int_or_none : (z : ℤ) (v : Value) (fits : Bool) → (if fits then Some (Value.Int z) else None) ≡ Some v → IsInt v
int_or_none z v true e = let same : Value.Int z ≡ v = cc in (z, sym same)
int_or_none z v false e = absurd (let no : ⊥ = cc in no)

int_value_is : (z : ℤ) (v : Value) → int_value z ≡ Some v → IsInt v
int_value_is z v e = int_or_none z v (int_le (negsuc (2 ^ 63 - 1)) z && int_le z (pos (2 ^ 63 - 1))) e

unless_zero : (zero_is : Bool) (z : ℤ) (v : Value) → (if zero_is then None else int_value z) ≡ Some v → IsInt v
unless_zero true z v e = absurd (let no : ⊥ = cc in no)
unless_zero false z v e = int_value_is z v e

int_result_is : (kind : OpKind) (x y : ℤ) (v : Value) → int_result kind x y ≡ Some v → IsInt v
int_result_is Add x y v e = int_value_is (x +ℤ y) v e
int_result_is Sub x y v e = int_value_is (x -ℤ y) v e
int_result_is Mul x y v e = int_value_is (x *ℤ y) v e
int_result_is Div x y v e = unless_zero (int_eq y (pos 0)) (int_div x y) v e
int_result_is Rem x y v e = unless_zero (int_eq y (pos 0)) (int_rem x y) v e

op_of : (kind : OpKind) (a b : Option ℤ) (v : Value) → option_and_then (λ x. option_and_then (int_result kind x) b) a ≡ Some v → IsInt v
op_of kind None b v e = absurd (let no : ⊥ = cc in no)
op_of kind (Some x) None v e = absurd (let no : ⊥ = cc in no)
op_of kind (Some x) (Some y) v e = int_result_is kind x y v e

neg_of : (a : Option ℤ) (v : Value) → option_and_then (λ x. int_value (neg_ℤ x)) a ≡ Some v → IsInt v
neg_of None v e = absurd (let no : ⊥ = cc in no)
neg_of (Some x) v e = int_value_is (neg_ℤ x) v e

pub op_is : (kind : OpKind) (a b : Option Value) (v : Value) → op_value kind a b ≡ Some v → IsInt v
op_is kind a b v e = op_of kind (option_and_then int_of a) (option_and_then int_of b) v e

pub neg_is : (a : Option Value) (v : Value) → neg_value a ≡ Some v → IsInt v
neg_is a v e = neg_of (option_and_then int_of a) v e

-- what the application in a hole is worth is a whole number
abbrev pub GivesInt : Hole → Type 0
GivesInt hole = (env : Env) (v : Value) → worth hole.form env ≡ Some v → IsInt v

abbrev HolesGiveInts : Expr → Type 0
HolesGiveInts e = AllByRecursion GivesInt (holes_in e)

abbrev Part : Type 0
Part = (e : Expr) × HolesGiveInts e

abbrev exprs : List Part → List Expr
exprs parts = map (λ e. e.0) parts

abbrev with_holes : Expr → Expr × List Hole
with_holes e = (e, holes_in e)

parts_give : (parts : List Part) (i : ℕ) → AllByRecursion GivesInt (holes_of_parts i (map with_holes (exprs parts)))
parts_give [] i = tt
parts_give (part ∷ parts) i =
    each_append GivesInt (map (within_part i) (holes_in part.0)) (holes_of_parts (i + 1) (map with_holes (exprs parts))) (each_map GivesInt (within_part i) (holes_in part.0) part.1) (parts_give parts (i + 1))

with_last_give : (parts : List Part) (last : Part) (i : ℕ) → AllByRecursion GivesInt (holes_of_parts i (map with_holes (exprs parts) ++ with_holes last.0 ∷ []))
with_last_give [] last i = each_append GivesInt (map (within_part i) (holes_in last.0)) [] (each_map GivesInt (within_part i) (holes_in last.0) last.1) tt
with_last_give (part ∷ parts) last i =
    each_append GivesInt (map (within_part i) (holes_in part.0)) (holes_of_parts (i + 1) (map with_holes (exprs parts) ++ with_holes last.0 ∷ []))
    (each_map GivesInt (within_part i) (holes_in part.0) part.1) (with_last_give parts last (i + 1))

holes_layer : (y : O.Expr-F Part) → AllByRecursion GivesInt (holes_step (map-Expr Expr (Expr × List Hole) with_holes (map-Expr Part Expr (λ e. e.0) y)))
holes_layer (O.Int n) = tt
holes_layer (O.Text s) = tt
holes_layer (O.Var x) = tt
holes_layer O.This = tt
holes_layer O.Step = tt
holes_layer (O.Tuple parts) = parts_give parts 0
holes_layer (O.List parts) = parts_give parts 0
holes_layer (O.Cons parts tail) = with_last_give parts tail 0
holes_layer (O.Neg part) = (λ env v e. neg_is (worth part.0 env) v (sym (worth-Neg part.0 env) ∙ e), tt)
holes_layer (O.Op kind a b) = (λ env v e. op_is kind (worth a.0 env) (worth b.0 env) v (sym (worth-Op kind a.0 b.0 env) ∙ e), tt)

pub holes_give_ints : (e : Expr) → AllByRecursion GivesInt (holes_in e)
holes_give_ints = ind-Expr HolesGiveInts (λ x y is.
    subst (AllByRecursion GivesInt) (sym (para-roll-Expr (List Hole) holes_step x))
    (subst (λ z. AllByRecursion GivesInt (holes_step (map-Expr Expr (Expr × List Hole) with_holes z))) is (holes_layer y)))

-- An instance is no number, text, tuple or list.
other_form : (x y : V.Value-F Value) (v w : Value) → out-Value v ≡ x → out-Value w ≡ y → v ≡ w → x ≡ y
other_form x y v w e f same = sym e ∙ ap out-Value same ∙ f

not_int : (n : ℤ) (i : InstRef) → Value.Int n ≡ Value.Inst i → ⊥
not_int n i e = let forms = other_form (V.Int n) (V.Inst i) (Value.Int n) (Value.Inst i) (Value.outs-Int n) (Value.outs-Inst i) e in let no : ⊥ = cc in no

not_text : (s : List ℕ) (i : InstRef) → Value.Text s ≡ Value.Inst i → ⊥
not_text s i e = let forms = other_form (V.Text s) (V.Inst i) (Value.Text s) (Value.Inst i) (Value.outs-Text s) (Value.outs-Inst i) e in let no : ⊥ = cc in no

not_tuple : (vs : List Value) (i : InstRef) → Value.Tuple vs ≡ Value.Inst i → ⊥
not_tuple vs i e = let forms = other_form (V.Tuple vs) (V.Inst i) (Value.Tuple vs) (Value.Inst i) (Value.outs-Tuple vs) (Value.outs-Inst i) e in let no : ⊥ = cc in no

not_list : (vs : List Value) (i : InstRef) → Value.List vs ≡ Value.Inst i → ⊥
not_list vs i e = let forms = other_form (V.List vs) (V.Inst i) (Value.List vs) (Value.Inst i) (Value.outs-List vs) (Value.outs-Inst i) e in let no : ⊥ = cc in no

int_no_instance : (i : InstRef) → IsInt (Value.Inst i) → ⊥
int_no_instance i is = not_int is.0 i (sym is.1)

mapped_no_instance : {A : Type 0} (f : A → Value) (i : InstRef) → ((x : A) → f x ≡ Value.Inst i → ⊥) → (o : Option A) → option_map f o ≡ Some (Value.Inst i) → ⊥
mapped_no_instance f i never None e = let no : ⊥ = cc in no
mapped_no_instance f i never (Some x) e = never x (same_Some (f x) (Value.Inst i) e)

onto_no_instance : (i : InstRef) (vs : List Value) (t : Option Value) → option_and_then (list_onto vs) t ≡ Some (Value.Inst i) → ⊥
onto_no_instance i vs None e = let no : ⊥ = cc in no
onto_no_instance i vs (Some w) e = mapped_no_instance (λ others. Value.List (vs ++ others)) i (λ others. not_list (vs ++ others) i) (list_of w) e

cons_no_instance : (i : InstRef) (o : Option (List Value)) (t : Option Value) → option_and_then (λ vs. option_and_then (list_onto vs) t) o ≡ Some (Value.Inst i) → ⊥
cons_no_instance i None t e = let no : ⊥ = cc in no
cons_no_instance i (Some vs) t e = onto_no_instance i vs t e

instance_layer : (x : O.Expr-F Expr) (env : Env) (u : Unknowns) (i : InstRef) → Sees env u → worth_step (map-Expr Expr (Env → Option Value) worth x) env ≡ Some (Value.Inst i) →
    term_step (map-Expr Expr (Unknowns → Option Value) term_value x) u ≡ Some (Value.Inst i)
instance_layer (O.Int n) env u i s e = absurd (not_int n i (same_Some (Value.Int n) (Value.Inst i) e))
instance_layer (O.Text t) env u i s e = absurd (not_text t i (same_Some (Value.Text t) (Value.Inst i) e))
instance_layer (O.Var x) env u i s e = ap Some (s.var x (Value.Inst i) e)
instance_layer O.This env u i s e = ap (λ j. Some (Value.Inst j)) s.this ∙ e
instance_layer O.Step env u i s e = absurd (mapped_no_instance (λ n. Value.Int (pos n)) i (λ n. not_int (pos n) i) env.step e)
instance_layer (O.Tuple parts) env u i s e = absurd (mapped_no_instance (λ vs. Value.Tuple vs) i (λ vs. not_tuple vs i) (worths (map worth parts) env) e)
instance_layer (O.List parts) env u i s e = absurd (mapped_no_instance (λ vs. Value.List vs) i (λ vs. not_list vs i) (worths (map worth parts) env) e)
instance_layer (O.Cons parts tail) env u i s e = absurd (cons_no_instance i (worths (map worth parts) env) (worth tail env) e)
instance_layer (O.Neg part) env u i s e = absurd (int_no_instance i (neg_is (worth part env) (Value.Inst i) e))
instance_layer (O.Op kind a b) env u i s e = absurd (int_no_instance i (op_is kind (worth a env) (worth b env) (Value.Inst i) e))

-- an expression that is worth an instance has no holes, and is read as it
pub instance_is_read : (e : Expr) (env : Env) (u : Unknowns) (i : InstRef) → Sees env u → worth e env ≡ Some (Value.Inst i) → term_value e u ≡ Some (Value.Inst i)
instance_is_read = ind-Expr (λ e. (env : Env) (u : Unknowns) (i : InstRef) → Sees env u → worth e env ≡ Some (Value.Inst i) → term_value e u ≡ Some (Value.Inst i)) (λ x y is env u i s e.
    ap (λ g. g u) (fold-roll-Expr (Unknowns → Option Value) term_step x)
    ∙ instance_layer x env u i s (sym (ap (λ g. g env) (fold-roll-Expr (Env → Option Value) worth_step x)) ∙ e))

-- a value with a kind of lists is the list of its elements
listed_layer : (x : V.Value-F Value) (kind : Kind) → kind_step (map-Value Value (Kind → Bool) value_has_kind x) (K.List kind) ≡ true → Value.List (unwrap_or (list_step x) []) ≡ roll-Value x
listed_layer (V.Int n) kind e = absurd (let no : ⊥ = cc in no)
listed_layer (V.Text s) kind e = absurd (let no : ⊥ = cc in no)
listed_layer (V.Tuple vs) kind e = absurd (let no : ⊥ = cc in no)
listed_layer (V.List vs) kind e = sym (Value.rolls-List vs)
listed_layer (V.Inst i) kind e = absurd (let no : ⊥ = cc in no)

-- a value of a kind of lists is the list of its elements
pub list_of_kind : (v : Value) (kind : Kind) → HasKind v (Kind.List kind) → Value.List (elements v) ≡ v
list_of_kind = ind-Value (λ v. (kind : Kind) → HasKind v (Kind.List kind) → Value.List (elements v) ≡ v) (λ x y is kind e.
    let rolled : value_has_kind (roll-Value x) (Kind.List kind) ≡ kind_step (map-Value Value (Kind → Bool) value_has_kind x) (out-Kind (Kind.List kind)) =
    ap (λ f. f (Kind.List kind)) (fold-roll-Value (Kind → Bool) (λ v k. kind_step v (out-Kind k)) x) in
    let at_list : kind_step (map-Value Value (Kind → Bool) value_has_kind x) (K.List kind) ≡ true = ap (kind_step (map-Value Value (Kind → Bool) value_has_kind x)) (sym (Kind.outs-List kind)) ∙ sym rolled ∙ e in
    ap (λ z. Value.List (unwrap_or (list_step z) [])) (out-roll-Value x) ∙ listed_layer x kind at_list)
