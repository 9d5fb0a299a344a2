-- Constants in which nothing is broken are narrow, hold no instance, and have the kinds that they
-- fit.
use Rattle.std.proofs.Common.{◌≡◌, ℕ, ℤ, Bool, true, false, List, [], ◌∷◌, map, refl, sym}
use Rattle.std.proofs.Common.{ap, ◌∙◌, subst, length}
use Rattle.std.specs.Prelude.{nat_le, flat_map}
use Rattle.std.specs.List.{list_all, list_any}
use Rattle.rn_notation.specs.declared.token.Spot.{Spot}
use Rattle.rn_items.proofs.Bools.{both_true, true_both}
use Rattle.rn_value.specs.Kinds.{fit_all, kind_step, value_has_kind}
use Rattle.rn_value.specs.declared.value.Kind.{Kind, out-Kind}
use Rattle.rn_value.specs.declared.value.Kind.TheOpen as K
use Rattle.rn_value.specs.declared.value.Value.{Value, fold-Value, fold_out-Value}
use Rattle.rn_value.specs.declared.value.Value.TheVariants as Value
use Rattle.rn_value.specs.declared.value.Value.TheOpen as V
use Rattle.rn_model.specs.Limits.{most_parts}
use Rattle.rn_model.specs.Kinds.{value_narrow, value_narrow_step, holds_instance, inst_in_step}
use Rattle.rn_net.specs.declared.constants.PConst.{PConst, PConst-F, ind-PConst, fold-roll-PConst}
use Rattle.rn_net.specs.declared.constants.PConstForm.{PConstForm, map-PConstForm}
use Rattle.rn_net.specs.declared.constants.PConstForm.{roll-PConstForm, fold-PConstForm}
use Rattle.rn_net.specs.declared.constants.PConstForm.{fold-roll-PConstForm}
use Rattle.rn_net.specs.declared.constants.PConstForm.TheOpen as C
use Rattle.rn_net.specs.Constants.{constant_at}
use Rattle.rn_declared.specs.declared.fault.Fault.{Fault}
use Rattle.rn_declared.specs.declared.pattern.Pattern.{Pattern, out-Pattern, map-Pattern}
use Rattle.rn_declared.specs.declared.pattern.Pattern.{fold_out-Pattern}
use Rattle.rn_declared.specs.declared.pattern.Pattern.TheOpen as P
use Rattle.rn_declared.specs.Faults.{past_limit}
use Rattle.rn_declared.specs.Patterns.{gives_kind, gives_step}
use Rattle.rn_declared.specs.Declarations.{Part, const_part, const_form_faults, fits, fits_form}
use Rattle.rn_declared.specs.Declarations.{all_fit}
use Rattle.rn_numbered.specs.Numbered.{value_of, value_of_form}
use Rattle.rn_check.proofs.NarrowKinds.{few_parts}
use Rattle.rn_declared.proofs.Faultless.{both_nil}

-- the equations of values
module _ {A : Type 0} (step : V.Value-F A → A) where
  abbrev fold_of : Value → A
  fold_of = fold-Value A step

  at-Int : (n : ℤ) → fold_of (Value.Int n) ≡ step (V.Int n)
  at-Int n = fold_out-Value A step (Value.Int n) ∙ rw (Value.outs-Int n)

  at-Text : (s : List ℕ) → fold_of (Value.Text s) ≡ step (V.Text s)
  at-Text s = fold_out-Value A step (Value.Text s) ∙ rw (Value.outs-Text s)

  at-Tuple : (vs : List Value) → fold_of (Value.Tuple vs) ≡ step (V.Tuple (map fold_of vs))
  at-Tuple vs = fold_out-Value A step (Value.Tuple vs) ∙ rw (Value.outs-Tuple vs)

  at-List : (vs : List Value) → fold_of (Value.List vs) ≡ step (V.List (map fold_of vs))
  at-List vs = fold_out-Value A step (Value.List vs) ∙ rw (Value.outs-List vs)

abbrev kinded_step : V.Value-F (Kind → Bool) → Kind → Bool
kinded_step v k = kind_step v (out-Kind k)

gives-out : (p : Pattern) (k : Kind) →
    gives_kind p k
    ≡ gives_step (map-Pattern Pattern (Kind → Bool) gives_kind (out-Pattern p)) (out-Kind k)
gives-out p k =
    ap (λ f. f k) (fold_out-Pattern (Kind → Bool) (λ p kind. gives_step p (out-Kind kind)) p)

abbrev part_at : PConst-F (List Fault) Part → Part
part_at = λ const. record { spot = const.spot; faults = const.form }

abbrev form_faults : PConstForm → List Fault
form_faults = fold-PConstForm (List Fault) Part const_form_faults part_at

abbrev form_value : PConstForm → Value
form_value = fold-PConstForm Value Value value_of_form (λ const. const.form)

abbrev Test : Type 0
Test = Pattern → Bool

abbrev fits_step : C.PConstForm-F Test Test → Test
fits_step = λ form pattern. fits_form form (out-Pattern pattern)

abbrev form_fits : PConstForm → Test
form_fits = fold-PConstForm Test Test fits_step (λ const. const.form)

-- what is shown of a constant
record IsSound (faults : List Fault) (test : Test) (v : Value) : Type 0 where
  narrow : faults ≡ [] → value_narrow v ≡ true
  apart : holds_instance v ≡ false
  kinded : (p : Pattern) (k : Kind) → test p ≡ true → gives_kind p k ≡ true →
      value_has_kind v k ≡ true

abbrev Sound : PConst → Type 0
Sound c = IsSound (const_part c).faults (fits c) (value_of c)

abbrev FormSound : PConstForm → Type 0
FormSound f = IsSound (form_faults f) (form_fits f) (form_value f)

abbrev ConstOf : Type 0
ConstOf = (c : PConst) × Sound c

abbrev FormOf : Type 0
FormOf = (f : PConstForm) × FormSound f

abbrev heads : C.PConstForm-F FormOf ConstOf → C.PConstForm-F PConstForm PConst
heads y = map-PConstForm FormOf ConstOf PConstForm PConst (λ e. e.0) (λ e. e.0) y

abbrev consts : List ConstOf → List PConst
consts parts = map (λ e. e.0) parts

all_narrow : (parts : List ConstOf) →
    flat_map (λ part. part.faults) (map const_part (consts parts)) ≡ [] →
    list_all (λ n. n) (map value_narrow (map value_of (consts parts))) ≡ true
all_narrow [] e = refl
all_narrow (part ∷ parts) e =
    let none = both_nil (const_part part.0).faults
    (flat_map (λ part. part.faults) (map const_part (consts parts))) e in
    true_both (value_narrow (value_of part.0))
    (list_all (λ n. n) (map value_narrow (map value_of (consts parts))))
    (part.1.narrow none.0) (all_narrow parts none.1)

none_hold : (parts : List ConstOf) →
    list_any (λ h. h) (map holds_instance (map value_of (consts parts))) ≡ false
none_hold [] = refl
none_hold (part ∷ parts) = rw (part.1.apart) (none_hold parts)

parts_fit : (parts : List ConstOf) (ps : List Pattern) (ks : List Kind) →
    all_fit (map fits (consts parts)) ps ≡ true → fit_all (map gives_kind ps) ks ≡ true →
    fit_all (map value_has_kind (map value_of (consts parts))) ks ≡ true
parts_fit [] [] ks e g = g
parts_fit [] (p ∷ ps) ks e g = absurd (let no : ⊥ = cc in no)
parts_fit (part ∷ parts) [] ks e g = absurd (let no : ⊥ = cc in no)
parts_fit (part ∷ parts) (p ∷ ps) [] e g = absurd (let no : ⊥ = cc in no)
parts_fit (part ∷ parts) (p ∷ ps) (k ∷ ks) e g =
    let fit = both_true (fits part.0 p) (all_fit (map fits (consts parts)) ps) e in
    let give = both_true (gives_kind p k) (fit_all (map gives_kind ps) ks) g in
    true_both (value_has_kind (value_of part.0) k)
    (fit_all (map value_has_kind (map value_of (consts parts))) ks)
    (part.1.kinded p k fit.0 give.0) (parts_fit parts ps ks fit.1 give.1)

elements_fit : (parts : List ConstOf) (p : Pattern) (k : Kind) →
    list_all (λ test. test p) (map fits (consts parts)) ≡ true → gives_kind p k ≡ true →
    list_all (λ test. test k) (map value_has_kind (map value_of (consts parts))) ≡ true
elements_fit [] p k e g = refl
elements_fit (part ∷ parts) p k e g =
    let fit = both_true (fits part.0 p) (list_all (λ test. test p) (map fits (consts parts))) e in
    true_both (value_has_kind (value_of part.0) k)
    (list_all (λ test. test k) (map value_has_kind (map value_of (consts parts))))
    (part.1.kinded p k fit.0 g) (elements_fit parts p k fit.1 g)

int_at : (n : ℤ) (y : P.Pattern-F Pattern) (z : K.Kind-F Kind) → fits_form (C.Int n) y ≡ true →
    gives_step (map-Pattern Pattern (Kind → Bool) gives_kind y) z ≡ true →
    kind_step (V.Int n) z ≡ true
int_at n P.Int K.Int e g = refl
int_at n P.Int _ e g = absurd (let no : ⊥ = cc in no)
int_at n _ z e g = absurd (let no : ⊥ = cc in no)

text_at : (s : List ℕ) (y : P.Pattern-F Pattern) (z : K.Kind-F Kind) →
    fits_form (C.Text s) y ≡ true →
    gives_step (map-Pattern Pattern (Kind → Bool) gives_kind y) z ≡ true →
    kind_step (V.Text s) z ≡ true
text_at s P.Text K.Text e g = refl
text_at s P.Text _ e g = absurd (let no : ⊥ = cc in no)
text_at s _ z e g = absurd (let no : ⊥ = cc in no)

tuple_at : (parts : List ConstOf) (y : P.Pattern-F Pattern) (z : K.Kind-F Kind) →
    fits_form (C.Tuple (map fits (consts parts))) y ≡ true →
    gives_step (map-Pattern Pattern (Kind → Bool) gives_kind y) z ≡ true →
    kind_step (V.Tuple (map value_has_kind (map value_of (consts parts)))) z ≡ true
tuple_at parts (P.Tuple ps) (K.Tuple ks) e g = parts_fit parts ps ks e g
tuple_at parts (P.Tuple ps) _ e g = absurd (let no : ⊥ = cc in no)
tuple_at parts _ z e g = absurd (let no : ⊥ = cc in no)

list_at : (parts : List ConstOf) (y : P.Pattern-F Pattern) (z : K.Kind-F Kind) →
    fits_form (C.List (map fits (consts parts))) y ≡ true →
    gives_step (map-Pattern Pattern (Kind → Bool) gives_kind y) z ≡ true →
    kind_step (V.List (map value_has_kind (map value_of (consts parts)))) z ≡ true
list_at parts (P.List p) (K.List k) e g = elements_fit parts p k e g
list_at parts (P.List p) _ e g = absurd (let no : ⊥ = cc in no)
list_at parts _ z e g = absurd (let no : ⊥ = cc in no)

abbrev OpenSound : C.PConstForm-F FormOf ConstOf → Type 0
OpenSound y = IsSound
    (const_form_faults (map-PConstForm PConstForm PConst (List Fault) Part form_faults const_part
    (heads y)))
    (fits_step (map-PConstForm PConstForm PConst Test Test form_fits fits (heads y)))
    (value_of_form (map-PConstForm PConstForm PConst Value Value form_value value_of (heads y)))

open_sound : (y : C.PConstForm-F FormOf ConstOf) → OpenSound y
open_sound (C.Int n) = record {
  narrow = λ e. at-Int value_narrow_step n;
  apart = at-Int inst_in_step n;
  kinded = λ p k e g. ap (λ f. f k) (at-Int kinded_step n)
      ∙ int_at n (out-Pattern p) (out-Kind k) e (sym (gives-out p k) ∙ g);
}
open_sound (C.Text s) = record {
  narrow = λ e. at-Text value_narrow_step s;
  apart = at-Text inst_in_step s;
  kinded = λ p k e g. ap (λ f. f k) (at-Text kinded_step s)
      ∙ text_at s (out-Pattern p) (out-Kind k) e (sym (gives-out p k) ∙ g);
}
open_sound (C.Tuple parts) =
    let vs : List Value = map value_of (consts parts) in
    let ps : List Part = map const_part (consts parts) in
    let narrow : List Bool = map value_narrow vs in
    record {
      narrow = λ e.
          let none = both_nil (flat_map (λ part. part.faults) ps)
          (past_limit most_parts (map (λ part. part.spot) ps)) e in
          at-Tuple value_narrow_step vs
          ∙ true_both (nat_le (length narrow) most_parts) (list_all (λ n. n) narrow)
          (few_parts (λ part. part.spot) const_part value_of value_narrow (consts parts) none.1)
          (all_narrow parts none.0);
      apart = at-Tuple inst_in_step vs ∙ none_hold parts;
      kinded = λ p k e g. ap (λ f. f k) (at-Tuple kinded_step vs)
          ∙ tuple_at parts (out-Pattern p) (out-Kind k) e (sym (gives-out p k) ∙ g);
    }
open_sound (C.List parts) =
    let vs : List Value = map value_of (consts parts) in
    record {
      narrow = λ e. at-List value_narrow_step vs ∙ all_narrow parts e;
      apart = at-List inst_in_step vs ∙ none_hold parts;
      kinded = λ p k e g. ap (λ f. f k) (at-List kinded_step vs)
          ∙ list_at parts (out-Pattern p) (out-Kind k) e (sym (gives-out p k) ∙ g);
    }

moved : {fs gs : List Fault} {s t : Test} {v w : Value} → fs ≡ gs → s ≡ t → v ≡ w →
    IsSound gs t w → IsSound fs s v
moved {fs} {gs} {s} {t} {v} {w} a b c sound =
    subst (λ fs. IsSound fs s v) (sym a)
    (subst (λ s. IsSound gs s v) (sym b) (subst (IsSound gs t) (sym c) sound))

form_layer : (y : C.PConstForm-F FormOf ConstOf) → FormSound (roll-PConstForm (heads y))
form_layer y =
    moved (fold-roll-PConstForm (List Fault) Part const_form_faults part_at (heads y))
    (fold-roll-PConstForm Test Test fits_step (λ const. const.form) (heads y))
    (fold-roll-PConstForm Value Value value_of_form (λ const. const.form) (heads y)) (open_sound y)

const_layer : (s : Spot) (f : PConstForm) → FormSound f → Sound (constant_at s f)
const_layer s f sound =
    let x : PConst-F PConstForm PConst = record { form = f; spot = s } in
    moved (ap (λ p. p.faults) (fold-roll-PConst (List Fault) Part const_form_faults part_at x))
    (fold-roll-PConst Test Test fits_step (λ const. const.form) x)
    (fold-roll-PConst Value Value value_of_form (λ const. const.form) x) sound

sound : (c : PConst) → Sound c
sound = ind-PConst FormSound Sound
    (λ x y is. subst (λ w. FormSound (roll-PConstForm w)) is (form_layer y))
    (λ x y is. subst (λ (w : PConst-F PConstForm PConst). Sound (constant_at w.spot w.form)) is
    (const_layer y.spot y.form.0 y.form.1))

pub token_narrow : (c : PConst) → (const_part c).faults ≡ [] → value_narrow (value_of c) ≡ true
token_narrow c e = (sound c).narrow e

pub token_apart : (c : PConst) → holds_instance (value_of c) ≡ false
token_apart c = (sound c).apart

pub token_kinded : (c : PConst) (p : Pattern) (k : Kind) → fits c p ≡ true →
    gives_kind p k ≡ true → value_has_kind (value_of c) k ≡ true
token_kinded c p k e g = (sound c).kinded p k e g
