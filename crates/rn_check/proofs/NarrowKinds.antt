-- Kinds and constants in which nothing is broken.
use Rattle.std.proofs.Common.{◌≡◌, Bool, true, List, [], ◌∷◌, map}
use Rattle.std.proofs.Common.{refl, sym}
use Rattle.std.proofs.Common.{ap, ◌∙◌, subst, length, arith}
use Rattle.std.specs.Prelude.{nat_le, flat_map}
use Rattle.std.specs.List.{list_all}
use Rattle.std.proofs.lemmas.List.{length-map}
use Rattle.rn_notation.specs.declared.token.Spot.{Spot}
use Rattle.rn_items.proofs.Bools.{true_both}
use Rattle.rn_value.specs.declared.value.Kind.{Kind, out-Kind, map-Kind, fold_out-Kind}
use Rattle.rn_value.specs.declared.value.Kind.TheVariants as Kind
use Rattle.rn_value.specs.declared.value.Kind.TheOpen as K
use Rattle.rn_model.specs.Limits.{most_parts}
use Rattle.rn_model.specs.Kinds.{kind_narrow, kind_narrow_step}
use Rattle.rn_net.specs.declared.kinds.PKind.{PKind, PKind-F, ind-PKind, fold-roll-PKind}
use Rattle.rn_net.specs.declared.kinds.PKindForm.{PKindForm, map-PKindForm, roll-PKindForm}
use Rattle.rn_net.specs.declared.kinds.PKindForm.{fold-PKindForm, fold-roll-PKindForm}
use Rattle.rn_net.specs.declared.kinds.PKindForm.TheOpen as F
use Rattle.rn_net.specs.Kinds.{kind_at}
use Rattle.rn_declared.specs.declared.fault.Fault.{Fault}
use Rattle.rn_declared.specs.Faults.{past_limit}
use Rattle.rn_declared.specs.Declarations.{Part, kind_part, kind_form_faults}
use Rattle.rn_declared.specs.Declarations.{kind_faults}
use Rattle.rn_numbered.specs.Numbered.{kind_of, kind_of_form}
use Rattle.rn_numbered.proofs.NumberedForms.{kind-at, form_kind}
use Rattle.rn_declared.proofs.Faultless.{both_nil, within_limit}
use Rattle.std.proofs.lemmas.Bool.{le-leb}

narrow-out : (k : Kind) →
    kind_narrow k ≡ kind_narrow_step (map-Kind Kind Bool kind_narrow (out-Kind k))
narrow-out k = fold_out-Kind Bool kind_narrow_step k

narrow-Int : kind_narrow Kind.Int ≡ true
narrow-Int = narrow-out Kind.Int ∙ rw Kind.outs-Int

narrow-Text : kind_narrow Kind.Text ≡ true
narrow-Text = narrow-out Kind.Text ∙ rw Kind.outs-Text

narrow-Tuple : (ks : List Kind) →
    kind_narrow (Kind.Tuple ks) ≡ kind_narrow_step (K.Tuple (map kind_narrow ks))
narrow-Tuple ks = narrow-out (Kind.Tuple ks) ∙ rw (Kind.outs-Tuple ks)

narrow-List : (k : Kind) → kind_narrow (Kind.List k) ≡ kind_narrow k
narrow-List k = narrow-out (Kind.List k) ∙ rw (Kind.outs-List k)

narrow-Net : kind_narrow Kind.Net ≡ true
narrow-Net = narrow-out Kind.Net ∙ rw Kind.outs-Net

-- kinds
abbrev IsNarrow : PKind → Type 0
IsNarrow kind = (kind_part kind).faults ≡ [] → kind_narrow (kind_of kind) ≡ true

abbrev part_at : PKind-F (List Fault) Part → Part
part_at = λ kind. record { spot = kind.spot; faults = kind.form }

abbrev form_faults : PKindForm → List Fault
form_faults = fold-PKindForm (List Fault) Part kind_form_faults part_at

abbrev FormIsNarrow : PKindForm → Type 0
FormIsNarrow form = form_faults form ≡ [] → kind_narrow (form_kind form) ≡ true

abbrev KindOf : Type 0
KindOf = (kind : PKind) × IsNarrow kind

abbrev FormOf : Type 0
FormOf = (form : PKindForm) × FormIsNarrow form

abbrev heads : F.PKindForm-F FormOf KindOf → F.PKindForm-F PKindForm PKind
heads y = map-PKindForm FormOf KindOf PKindForm PKind (λ e. e.0) (λ e. e.0) y

abbrev kinds : List KindOf → List PKind
kinds parts = map (λ e. e.0) parts

all_narrow : (parts : List KindOf) →
    flat_map (λ part. part.faults) (map kind_part (kinds parts)) ≡ [] →
    list_all (λ n. n) (map kind_narrow (map kind_of (kinds parts))) ≡ true
all_narrow [] e = refl
all_narrow (part ∷ parts) e =
    let none = both_nil (kind_part part.0).faults
    (flat_map (λ part. part.faults) (map kind_part (kinds parts))) e in
    true_both (kind_narrow (kind_of part.0))
    (list_all (λ n. n) (map kind_narrow (map kind_of (kinds parts))))
    (part.1 none.0) (all_narrow parts none.1)

pub few_parts : {A B D : Type 0} (spot : Part → Spot) (part : A → Part) (f : A → B) (g : B → D)
    (xs : List A) → past_limit most_parts (map spot (map part xs)) ≡ [] →
    nat_le (length (map g (map f xs))) most_parts ≡ true
few_parts spot part f g xs e =
    let few = within_limit most_parts (map spot (map part xs)) e in
    let one = length-map (map part xs) spot in
    let two = length-map xs part in
    let three = length-map (map f xs) g in
    let four = length-map xs f in
    le-leb (length (map g (map f xs))) most_parts (omega (arith, few, one, two, three, four))

open_kind : (y : F.PKindForm-F FormOf KindOf) →
    kind_form_faults (map-PKindForm PKindForm PKind (List Fault) Part form_faults kind_part
    (heads y))
    ≡ [] →
    kind_narrow (kind_of_form (map-PKindForm PKindForm PKind Kind Kind form_kind kind_of (heads y)))
    ≡ true
open_kind F.Int e = narrow-Int
open_kind F.Text e = narrow-Text
open_kind (F.Tuple parts) e =
    let ps : List Part = map kind_part (kinds parts) in
    let none = both_nil (flat_map (λ part. part.faults) ps)
    (past_limit most_parts (map (λ part. part.spot) ps)) e in
    let narrow : List Bool = map kind_narrow (map kind_of (kinds parts)) in
    narrow-Tuple (map kind_of (kinds parts))
    ∙ true_both (nat_le (length narrow) most_parts) (list_all (λ n. n) narrow)
    (few_parts (λ part. part.spot) kind_part kind_of kind_narrow (kinds parts) none.1)
    (all_narrow parts none.0)
open_kind (F.List part) e = narrow-List (kind_of part.0) ∙ part.1 e
open_kind F.Net e = narrow-Net

kind_form_layer : (y : F.PKindForm-F FormOf KindOf) → FormIsNarrow (roll-PKindForm (heads y))
kind_form_layer y e =
    ap kind_narrow (fold-roll-PKindForm Kind Kind kind_of_form (λ kind. kind.form) (heads y))
    ∙ open_kind y
    (sym (fold-roll-PKindForm (List Fault) Part kind_form_faults part_at (heads y)) ∙ e)

kind_layer : (s : Spot) (f : PKindForm) → FormIsNarrow f → IsNarrow (kind_at s f)
kind_layer s f narrow e =
    ap kind_narrow (kind-at s f)
    ∙ narrow (sym (ap (λ p. p.faults)
    (fold-roll-PKind (List Fault) Part kind_form_faults part_at (record { form = f; spot = s })))
    ∙ e)

pub kind_is_narrow : (kind : PKind) → kind_faults kind ≡ [] → kind_narrow (kind_of kind) ≡ true
kind_is_narrow = ind-PKind FormIsNarrow IsNarrow
    (λ x y is. subst (λ w. FormIsNarrow (roll-PKindForm w)) is (kind_form_layer y))
    (λ x y is. subst (λ (w : PKind-F PKindForm PKind). IsNarrow (kind_at w.spot w.form)) is
    (kind_layer y.spot y.form.0 y.form.1))
