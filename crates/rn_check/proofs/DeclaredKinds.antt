-- The pattern of a kind that stands in a text, beside the kind that it means.
use Rattle.std.proofs.Common.{◌≡◌, Bool, true, ◌&&◌, List, [], ◌∷◌, map, refl, sym, ap, ◌∙◌}
use Rattle.std.proofs.Common.{subst}
use Rattle.rn_notation.specs.declared.token.Spot.{Spot}
use Rattle.rn_items.proofs.Bools.{true_both}
use Rattle.rn_value.specs.Kinds.{fit_all}
use Rattle.rn_value.specs.declared.value.Kind.{Kind, out-Kind, map-Kind, fold_out-Kind}
use Rattle.rn_value.specs.declared.value.Kind.{fold-roll-Kind}
use Rattle.rn_value.specs.declared.value.Kind.{ind-Kind, out-roll-Kind, roll-Kind}
use Rattle.rn_value.specs.declared.value.Kind.TheVariants as Kind
use Rattle.rn_value.specs.declared.value.Kind.TheOpen as K
use Rattle.rn_model.specs.Kinds.{same_kind, same_kind_step}
use Rattle.rn_net.specs.declared.kinds.PKind.{PKind, PKind-F, ind-PKind, fold-roll-PKind}
use Rattle.rn_net.specs.declared.kinds.PKindForm.{PKindForm, map-PKindForm, roll-PKindForm}
use Rattle.rn_net.specs.declared.kinds.PKindForm.{fold-PKindForm, fold-roll-PKindForm}
use Rattle.rn_net.specs.declared.kinds.PKindForm.TheOpen as F
use Rattle.rn_net.specs.Kinds.{kind_at}
use Rattle.rn_declared.specs.declared.pattern.Pattern.{Pattern}
use Rattle.rn_declared.specs.declared.pattern.Pattern.TheOpen as P
use Rattle.rn_declared.specs.Patterns.{gives_step, gives_kind, pattern_of, pattern_step}
use Rattle.rn_numbered.specs.Numbered.{kind_of, kind_of_form}
use Rattle.rn_numbered.proofs.NumberedForms.{form_kind, kind-at}
use Rattle.rn_declared.proofs.PatternKinds.{gives-Int, gives-Text, gives-Tuple, gives-List}
use Rattle.rn_declared.proofs.PatternKinds.{gives-Net}

abbrev same_at : K.Kind-F Kind → K.Kind-F Kind → Bool
same_at x z = same_kind_step (map-Kind Kind (Kind → Bool) same_kind x) z

same-out : (l k : Kind) → same_kind l k ≡ same_at (out-Kind l) (out-Kind k)
same-out l k =
    ap (λ f. f k) (fold_out-Kind (Kind → Bool) (λ k l. same_kind_step k (out-Kind l)) l)

pub same-Int : (k : Kind) → same_kind Kind.Int k ≡ same_kind_step K.Int (out-Kind k)
same-Int k = same-out Kind.Int k ∙ rw Kind.outs-Int

same-Text : (k : Kind) → same_kind Kind.Text k ≡ same_kind_step K.Text (out-Kind k)
same-Text k = same-out Kind.Text k ∙ rw Kind.outs-Text

same-Tuple : (ls : List Kind) (k : Kind) →
    same_kind (Kind.Tuple ls) k ≡ same_kind_step (K.Tuple (map same_kind ls)) (out-Kind k)
same-Tuple ls k = same-out (Kind.Tuple ls) k ∙ rw (Kind.outs-Tuple ls)

same-List : (l k : Kind) →
    same_kind (Kind.List l) k ≡ same_kind_step (K.List (same_kind l)) (out-Kind k)
same-List l k = same-out (Kind.List l) k ∙ rw (Kind.outs-List l)

pub same-Net : (k : Kind) → same_kind Kind.Net k ≡ same_kind_step K.Net (out-Kind k)
same-Net k = same-out Kind.Net k ∙ rw Kind.outs-Net

abbrev SameAsItself : Kind → Type 0
SameAsItself k = same_kind k k ≡ true

same_parts : (ks : List ((k : Kind) × SameAsItself k)) →
    fit_all (map same_kind (map (λ e. e.0) ks)) (map (λ e. e.0) ks) ≡ true
same_parts [] = refl
same_parts (k ∷ ks) =
    true_both (same_kind k.0 k.0) (fit_all (map same_kind (map (λ e. e.0) ks)) (map (λ e. e.0) ks))
    k.1 (same_parts ks)

same_layer : (y : K.Kind-F ((k : Kind) × SameAsItself k)) →
    same_kind_step (map-Kind Kind (Kind → Bool) same_kind (map-Kind _ Kind (λ e. e.0) y))
    (map-Kind _ Kind (λ e. e.0) y) ≡ true
same_layer K.Int = refl
same_layer K.Text = refl
same_layer (K.Tuple ks) = same_parts ks
same_layer (K.List k) = k.1
same_layer K.Net = refl

-- a kind is the same as itself
pub same_as_itself : (k : Kind) → same_kind k k ≡ true
same_as_itself = ind-Kind SameAsItself (λ x y is.
    ap (λ f. f (roll-Kind x))
    (fold-roll-Kind (Kind → Bool) (λ k l. same_kind_step k (out-Kind l)) x)
    ∙ ap (same_at x) (out-roll-Kind x)
    ∙ subst (λ w. same_at w w ≡ true) is (same_layer y))

-- The pattern of a kind gives that kind alone.
abbrev GivesItself : PKind → Type 0
GivesItself kind = (k : Kind) → gives_kind (pattern_of kind) k ≡ same_kind (kind_of kind) k

abbrev form_pattern : PKindForm → Pattern
form_pattern = fold-PKindForm Pattern Pattern pattern_step (λ kind. kind.form)

abbrev FormGivesItself : PKindForm → Type 0
FormGivesItself form = (k : Kind) → gives_kind (form_pattern form) k ≡ same_kind (form_kind form) k

-- the pattern of a kind is that of its form, wherever it stands
pub pattern-at : (s : Spot) (f : PKindForm) → pattern_of (kind_at s f) ≡ form_pattern f
pattern-at s f =
    fold-roll-PKind Pattern Pattern pattern_step (λ kind. kind.form) (record { form = f; spot = s })

abbrev Part : Type 0
Part = (kind : PKind) × GivesItself kind

abbrev FormPart : Type 0
FormPart = (form : PKindForm) × FormGivesItself form

abbrev heads : F.PKindForm-F FormPart Part → F.PKindForm-F PKindForm PKind
heads y = map-PKindForm FormPart Part PKindForm PKind (λ e. e.0) (λ e. e.0) y

pub int_same : (z : K.Kind-F Kind) → gives_step P.Int z ≡ same_kind_step K.Int z
int_same K.Int = refl
int_same K.Text = refl
int_same (K.Tuple ks) = refl
int_same (K.List k) = refl
int_same K.Net = refl

text_same : (z : K.Kind-F Kind) → gives_step P.Text z ≡ same_kind_step K.Text z
text_same K.Int = refl
text_same K.Text = refl
text_same (K.Tuple ks) = refl
text_same (K.List k) = refl
text_same K.Net = refl

pub net_same : (z : K.Kind-F Kind) → gives_step P.Net z ≡ same_kind_step K.Net z
net_same K.Int = refl
net_same K.Text = refl
net_same (K.Tuple ks) = refl
net_same (K.List k) = refl
net_same K.Net = refl

parts_same : (parts : List Part) (ks : List Kind) →
    fit_all (map gives_kind (map pattern_of (map (λ e. e.0) parts))) ks
    ≡ fit_all (map same_kind (map kind_of (map (λ e. e.0) parts))) ks
parts_same [] [] = refl
parts_same [] (k ∷ ks) = refl
parts_same (part ∷ parts) [] = refl
parts_same (part ∷ parts) (k ∷ ks) =
    ap (λ b. b && fit_all (map gives_kind (map pattern_of (map (λ e. e.0) parts))) ks) (part.1 k)
    ∙ ap (λ b. same_kind (kind_of part.0) k && b) (parts_same parts ks)

tuple_same : (parts : List Part) (z : K.Kind-F Kind) →
    gives_step (P.Tuple (map gives_kind (map pattern_of (map (λ e. e.0) parts)))) z
    ≡ same_kind_step (K.Tuple (map same_kind (map kind_of (map (λ e. e.0) parts)))) z
tuple_same parts K.Int = refl
tuple_same parts K.Text = refl
tuple_same parts (K.Tuple ks) = parts_same parts ks
tuple_same parts (K.List k) = refl
tuple_same parts K.Net = refl

list_same : (part : Part) (z : K.Kind-F Kind) →
    gives_step (P.List (gives_kind (pattern_of part.0))) z
    ≡ same_kind_step (K.List (same_kind (kind_of part.0))) z
list_same part K.Int = refl
list_same part K.Text = refl
list_same part (K.Tuple ks) = refl
list_same part (K.List k) = part.1 k
list_same part K.Net = refl

open_layer : (y : F.PKindForm-F FormPart Part) (k : Kind) →
    gives_kind (pattern_step (map-PKindForm PKindForm PKind Pattern Pattern form_pattern pattern_of
    (heads y))) k
    ≡ same_kind (kind_of_form (map-PKindForm PKindForm PKind Kind Kind form_kind kind_of (heads y)))
    k
open_layer F.Int k = gives-Int k ∙ int_same (out-Kind k) ∙ sym (same-Int k)
open_layer F.Text k = gives-Text k ∙ text_same (out-Kind k) ∙ sym (same-Text k)
open_layer (F.Tuple parts) k =
    gives-Tuple (map pattern_of (map (λ e. e.0) parts)) k ∙ tuple_same parts (out-Kind k)
    ∙ sym (same-Tuple (map kind_of (map (λ e. e.0) parts)) k)
open_layer (F.List part) k =
    gives-List (pattern_of part.0) k ∙ list_same part (out-Kind k)
    ∙ sym (same-List (kind_of part.0) k)
open_layer F.Net k = gives-Net k ∙ net_same (out-Kind k) ∙ sym (same-Net k)

form_layer : (y : F.PKindForm-F FormPart Part) → FormGivesItself (roll-PKindForm (heads y))
form_layer y k =
    ap (λ p. gives_kind p k)
    (fold-roll-PKindForm Pattern Pattern pattern_step (λ kind. kind.form) (heads y))
    ∙ open_layer y k
    ∙ sym (ap (λ l. same_kind l k)
    (fold-roll-PKindForm Kind Kind kind_of_form (λ kind. kind.form) (heads y)))

pub gives_itself : (kind : PKind) (k : Kind) →
    gives_kind (pattern_of kind) k ≡ same_kind (kind_of kind) k
gives_itself = ind-PKind FormGivesItself GivesItself
    (λ x y is. subst (λ w. FormGivesItself (roll-PKindForm w)) is (form_layer y))
    (λ x y is. subst (λ (w : PKind-F PKindForm PKind). GivesItself (kind_at w.spot w.form)) is
    (λ k. ap (λ p. gives_kind p k) (pattern-at y.spot y.form.0) ∙ y.form.1 k
    ∙ sym (ap (λ l. same_kind l k) (kind-at y.spot y.form.0))))
