-- The canonical text doesn't depend on spots.
use Rattle.std.proofs.Common.{◌≡◌, ℕ, ◌&&◌, nat_eq, if◌then◌else◌, List, [], ◌∷◌, ◌++◌, map, refl, sym, ap, ◌∙◌, subst}
use Rattle.std.specs.Prelude.{codes, Option, Some, None, option_map}
use Rattle.std.specs.List.{flat_map, join_by, AllByRecursion}
use Rattle.rn_notation.specs.declared.token.Spot.{Spot}
use Rattle.rn_inscript.specs.declared.exprs.PExpr.{PExpr, PExpr-F, ind-PExpr, fold-roll-PExpr}
use Rattle.rn_inscript.specs.declared.exprs.PForm.{PForm, fold_out-PForm, map-PForm, out-PForm, roll-PForm}
use Rattle.rn_inscript.specs.declared.exprs.PForm.TheVariants as F
use Rattle.rn_inscript.specs.declared.exprs.PForm.TheOpen as O
use Rattle.rn_inscript.specs.declared.conds.PCond.{PCond, PCond-F, ind-PCond}
use Rattle.rn_inscript.specs.declared.conds.PSimple.{PSimple, map-PSimple, roll-PSimple}
use Rattle.rn_inscript.specs.declared.conds.PSimple.TheVariants as S
use Rattle.rn_inscript.specs.declared.conds.PSimple.TheOpen as T
use Rattle.rn_inscript.specs.declared.inscriptions.PInscribed.{PInscribed}
use Rattle.rn_inscript.specs.declared.inscriptions.PInscribed.TheVariants as I
use Rattle.rn_inscript.specs.declared.inscriptions.PInscription.{PInscription}
use Rattle.rn_inscript.specs.Expressions.{at_spot}
use Rattle.rn_inscript.specs.Conditions.{any_of}
use Rattle.rn_net.specs.declared.kinds.PKind.{PKind, PKind-F, ind-PKind}
use Rattle.rn_net.specs.declared.kinds.PKindForm.{PKindForm, map-PKindForm, roll-PKindForm}
use Rattle.rn_net.specs.declared.kinds.PKindForm.TheVariants as K
use Rattle.rn_net.specs.declared.kinds.PKindForm.TheOpen as L
use Rattle.rn_net.specs.declared.constants.PConst.{PConst, PConst-F, ind-PConst}
use Rattle.rn_net.specs.declared.constants.PConstForm.{PConstForm, map-PConstForm, roll-PConstForm}
use Rattle.rn_net.specs.declared.constants.PConstForm.TheVariants as C
use Rattle.rn_net.specs.declared.constants.PConstForm.TheOpen as D
use Rattle.rn_net.specs.declared.plain.Plain.{Plain}
use Rattle.rn_net.specs.declared.plain.PChannel.{PChannel}
use Rattle.rn_net.specs.declared.plain.PVar.{PVar}
use Rattle.rn_net.specs.declared.plain.PPlace.{PPlace}
use Rattle.rn_net.specs.declared.plain.PMax.{PMax}
use Rattle.rn_net.specs.declared.plain.PTransition.{PTransition}
use Rattle.rn_net.specs.declared.plain.PNet.{PNet}
use Rattle.rn_net.specs.Kinds.{kind_at}
use Rattle.rn_net.specs.Constants.{constant_at}
use Rattle.rn_print.specs.Pieces.{listed, separated, in_parentheses}
use Rattle.rn_print.specs.Kinds.{kind_text}
use Rattle.rn_print.specs.Constants.{constant_text}
use Rattle.rn_print.specs.Expressions.{Operand, form_step, expr_step, operand_text, expr_text, exprs_text, row}
use Rattle.rn_print.specs.Conditions.{cond_text, simple_text, comparison, all_step}
use Rattle.rn_print.specs.Inscriptions.{inscribed_text, after_place, arc_word}
use Rattle.rn_print.specs.Nets.{channel_text, var_text, capacity_text, initial_text, place_text, go_together, goes_on, added_text, following_text, later_text, inscriptions_text, transition_text, net_text, notation_text, canonical_text}
use Rattle.rn_print.specs.SameButSpots.{first_spot, kind_unplaced, constant_unplaced, expr_unplaced, cond_unplaced, simple_unplaced, inscribed_unplaced, inscription_unplaced, channel_unplaced, var_unplaced, max_unplaced, place_unplaced, transition_unplaced, net_unplaced, unplaced, SameButSpots}
use Rattle.rn_print.proofs.SpelledKinds as Kinds
use Rattle.rn_print.proofs.SpelledConstants as Constants
use Rattle.rn_print.proofs.ExpressionTexts as Exprs
use Rattle.rn_print.proofs.SpelledConditions as Conds

-- what doesn't change in any element doesn't change in their list
maps : {A B : Type 0} (f : A → B) (g : A → A) (xs : List A) →
    AllByRecursion (λ x. f (g x) ≡ f x) xs → map f (map g xs) ≡ map f xs
maps f g [] all = refl
maps f g (x ∷ xs) (is, all) =
    ap (λ y. y ∷ map f (map g xs)) is ∙ ap (λ ys. f x ∷ ys) (maps f g xs all)

joins : {A : Type 0} (f : A → List ℕ) (g : A → A) (xs : List A) → ((x : A) → f (g x) ≡ f x) →
    flat_map f (map g xs) ≡ flat_map f xs
joins f g [] is = refl
joins f g (x ∷ xs) is =
    ap (λ t. t ++ flat_map f (map g xs)) (is x) ∙ ap (λ t. f x ++ t) (joins f g xs is)

each : {A : Type 0} (P : A → Type 0) (xs : List A) → ((x : A) → P x) → AllByRecursion P xs
each P [] is = tt
each P (x ∷ xs) is = (is x, each P xs is)

pub each_part : {X : Type 0} (P : X → Type 0) (parts : List ((x : X) × P x)) →
    AllByRecursion P (map (λ e. e.0) parts)
each_part P [] = tt
each_part P (part ∷ parts) = (part.1, each_part P parts)

-- kinds
abbrev KindSame : PKind → Type 0
KindSame k = kind_text (kind_unplaced k) ≡ kind_text k

abbrev KindFormSame : PKindForm → Type 0
KindFormSame f = Kinds.form_text (Kinds.form_unplaced f) ≡ Kinds.form_text f

kind_same_at : (s : Spot) (f : PKindForm) → KindFormSame f → KindSame (kind_at s f)
kind_same_at s f is =
    ap kind_text (Kinds.unplaced-at s f) ∙ Kinds.text-at first_spot (Kinds.form_unplaced f) ∙ is
    ∙ sym (Kinds.text-at s f)

kind_tuple_same : (ks : List PKind) → AllByRecursion KindSame ks → KindFormSame (K.Tuple ks)
kind_tuple_same ks all =
    ap Kinds.form_text (Kinds.bare-Tuple ks) ∙ Kinds.text-Tuple (map kind_unplaced ks)
    ∙ ap (λ ts. codes "[" ++ listed ts ++ codes "]") (maps kind_text kind_unplaced ks all)
    ∙ sym (Kinds.text-Tuple ks)

kind_list_same : (k : PKind) → KindSame k → KindFormSame (K.List k)
kind_list_same k is =
    ap Kinds.form_text (Kinds.bare-List k) ∙ Kinds.text-List (kind_unplaced k)
    ∙ ap (λ t. codes "{" ++ t ++ codes "}") is ∙ sym (Kinds.text-List k)

kind_layer : (y : L.PKindForm-F ((f : PKindForm) × KindFormSame f) ((k : PKind) × KindSame k)) →
    KindFormSame (roll-PKindForm (map-PKindForm _ _ PKindForm PKind (λ e. e.0) (λ e. e.0) y))
kind_layer L.Int =
    subst KindFormSame (sym K.rolls-Int) (ap Kinds.form_text (Kinds.bare K.Int ∙ rw K.outs-Int K.rolls-Int))
kind_layer L.Text =
    subst KindFormSame (sym K.rolls-Text) (ap Kinds.form_text (Kinds.bare K.Text ∙ rw K.outs-Text K.rolls-Text))
kind_layer L.Net =
    subst KindFormSame (sym K.rolls-Net) (ap Kinds.form_text (Kinds.bare K.Net ∙ rw K.outs-Net K.rolls-Net))
kind_layer (L.Tuple parts) =
    let ks : List PKind = map (λ e. e.0) parts in
    subst KindFormSame (sym (K.rolls-Tuple ks)) (kind_tuple_same ks (each_part KindSame parts))
kind_layer (L.List part) =
    subst KindFormSame (sym (K.rolls-List part.0)) (kind_list_same part.0 part.1)

kind_same : (k : PKind) → KindSame k
kind_same = ind-PKind KindFormSame KindSame
    (λ x y is. subst (λ w. KindFormSame (roll-PKindForm w)) is (kind_layer y))
    (λ x y is. subst (λ (w : PKind-F PKindForm PKind). KindSame (kind_at w.spot w.form)) is
    (kind_same_at y.spot y.form.0 y.form.1))

-- constants
abbrev ConstSame : PConst → Type 0
ConstSame c = constant_text (constant_unplaced c) ≡ constant_text c

abbrev ConstFormSame : PConstForm → Type 0
ConstFormSame f = Constants.form_text (Constants.form_unplaced f) ≡ Constants.form_text f

const_same_at : (s : Spot) (f : PConstForm) → ConstFormSame f → ConstSame (constant_at s f)
const_same_at s f is =
    ap constant_text (Constants.unplaced-at s f)
    ∙ Constants.text-at first_spot (Constants.form_unplaced f) ∙ is ∙ sym (Constants.text-at s f)

const_tuple_same : (items : List PConst) → AllByRecursion ConstSame items →
    ConstFormSame (C.Tuple items)
const_tuple_same items all =
    ap Constants.form_text (Constants.bare-Tuple items)
    ∙ Constants.text-Tuple (map constant_unplaced items)
    ∙ ap (λ ts. codes "[" ++ listed ts ++ codes "]") (maps constant_text constant_unplaced items all)
    ∙ sym (Constants.text-Tuple items)

const_list_same : (items : List PConst) → AllByRecursion ConstSame items →
    ConstFormSame (C.List items)
const_list_same items all =
    ap Constants.form_text (Constants.bare-List items)
    ∙ Constants.text-List (map constant_unplaced items)
    ∙ ap (λ ts. codes "{" ++ listed ts ++ codes "}") (maps constant_text constant_unplaced items all)
    ∙ sym (Constants.text-List items)

const_layer : (y : D.PConstForm-F ((f : PConstForm) × ConstFormSame f) ((c : PConst) × ConstSame c)) →
    ConstFormSame (roll-PConstForm (map-PConstForm _ _ PConstForm PConst (λ e. e.0) (λ e. e.0) y))
const_layer (D.Int n) =
    subst ConstFormSame (sym (C.rolls-Int n))
    (ap Constants.form_text (Constants.bare (C.Int n) ∙ rw (C.outs-Int n) (C.rolls-Int n)))
const_layer (D.Text s) =
    subst ConstFormSame (sym (C.rolls-Text s))
    (ap Constants.form_text (Constants.bare (C.Text s) ∙ rw (C.outs-Text s) (C.rolls-Text s)))
const_layer (D.Tuple parts) =
    let items : List PConst = map (λ e. e.0) parts in
    subst ConstFormSame (sym (C.rolls-Tuple items)) (const_tuple_same items (each_part ConstSame parts))
const_layer (D.List parts) =
    let items : List PConst = map (λ e. e.0) parts in
    subst ConstFormSame (sym (C.rolls-List items)) (const_list_same items (each_part ConstSame parts))

const_same : (c : PConst) → ConstSame c
const_same = ind-PConst ConstFormSame ConstSame
    (λ x y is. subst (λ w. ConstFormSame (roll-PConstForm w)) is (const_layer y))
    (λ x y is. subst (λ (w : PConst-F PConstForm PConst). ConstSame (constant_at w.spot w.form)) is
    (const_same_at y.spot y.form.0 y.form.1))

-- expressions
abbrev ExprSame : PExpr → Type 0
ExprSame e = operand_text (expr_unplaced e) ≡ operand_text e

abbrev FormSame : PForm → Type 0
FormSame f = Exprs.form_text (Exprs.form_unplaced f) ≡ Exprs.form_text f

texts-at : (s : Spot) (f : PForm) → operand_text (at_spot s f) ≡ Exprs.form_text f
texts-at s f = fold-roll-PExpr Operand Operand form_step expr_step (record { form = f; spot = s })

texts : (f : PForm) →
    Exprs.form_text f
    ≡ form_step (map-PForm PForm PExpr Operand Operand Exprs.form_text operand_text (out-PForm f))
texts f = fold_out-PForm Operand Operand form_step expr_step f

expr_same_at : (s : Spot) (f : PForm) → FormSame f → ExprSame (at_spot s f)
expr_same_at s f is =
    ap operand_text (Exprs.unplaced-at s f) ∙ texts-at first_spot (Exprs.form_unplaced f) ∙ is
    ∙ sym (texts-at s f)

texts-Tuple : (es : List PExpr) →
    Exprs.form_text (F.Tuple es) ≡ form_step (O.Tuple (map operand_text es))
texts-Tuple es = texts (F.Tuple es) ∙ rw (F.outs-Tuple es)

texts-List : (es : List PExpr) →
    Exprs.form_text (F.List es) ≡ form_step (O.List (map operand_text es))
texts-List es = texts (F.List es) ∙ rw (F.outs-List es)

texts-Cons : (es : List PExpr) (e : PExpr) →
    Exprs.form_text (F.Cons es e) ≡ form_step (O.Cons (map operand_text es) (operand_text e))
texts-Cons es e = texts (F.Cons es e) ∙ rw (F.outs-Cons es e)

texts-Neg : (e : PExpr) → Exprs.form_text (F.Neg e) ≡ form_step (O.Neg (operand_text e))
texts-Neg e = texts (F.Neg e) ∙ rw (F.outs-Neg e)

texts-Op : (op : _) (a b : PExpr) →
    Exprs.form_text (F.Op op a b) ≡ form_step (O.Op op (operand_text a) (operand_text b))
texts-Op op a b = texts (F.Op op a b) ∙ rw (F.outs-Op op a b)

form_layer : (y : O.PForm-F ((f : PForm) × FormSame f) ((e : PExpr) × ExprSame e)) →
    FormSame (roll-PForm (map-PForm _ _ PForm PExpr (λ e. e.0) (λ e. e.0) y))
form_layer (O.Int n) =
    subst FormSame (sym (F.rolls-Int n))
    (ap Exprs.form_text (Exprs.bare (F.Int n) ∙ rw (F.outs-Int n) (F.rolls-Int n)))
form_layer (O.Text s) =
    subst FormSame (sym (F.rolls-Text s))
    (ap Exprs.form_text (Exprs.bare (F.Text s) ∙ rw (F.outs-Text s) (F.rolls-Text s)))
form_layer (O.Name s) =
    subst FormSame (sym (F.rolls-Name s))
    (ap Exprs.form_text (Exprs.bare (F.Name s) ∙ rw (F.outs-Name s) (F.rolls-Name s)))
form_layer O.This =
    subst FormSame (sym F.rolls-This)
    (ap Exprs.form_text (Exprs.bare F.This ∙ rw F.outs-This F.rolls-This))
form_layer O.Step =
    subst FormSame (sym F.rolls-Step)
    (ap Exprs.form_text (Exprs.bare F.Step ∙ rw F.outs-Step F.rolls-Step))
form_layer (O.Tuple parts) =
    let es : List PExpr = map (λ e. e.0) parts in
    let same = maps operand_text expr_unplaced es (each_part ExprSame parts) in
    subst FormSame (sym (F.rolls-Tuple es))
    (ap Exprs.form_text (Exprs.bare-Tuple es) ∙ texts-Tuple (map expr_unplaced es)
    ∙ ap (λ ts. form_step (O.Tuple ts)) same ∙ sym (texts-Tuple es))
form_layer (O.List parts) =
    let es : List PExpr = map (λ e. e.0) parts in
    let same = maps operand_text expr_unplaced es (each_part ExprSame parts) in
    subst FormSame (sym (F.rolls-List es))
    (ap Exprs.form_text (Exprs.bare-List es) ∙ texts-List (map expr_unplaced es)
    ∙ ap (λ ts. form_step (O.List ts)) same ∙ sym (texts-List es))
form_layer (O.Cons parts tail) =
    let es : List PExpr = map (λ e. e.0) parts in
    let same = maps operand_text expr_unplaced es (each_part ExprSame parts) in
    subst FormSame (sym (F.rolls-Cons es tail.0))
    (ap Exprs.form_text (Exprs.bare-Cons es tail.0)
    ∙ texts-Cons (map expr_unplaced es) (expr_unplaced tail.0)
    ∙ ap (λ ts. form_step (O.Cons ts (operand_text (expr_unplaced tail.0)))) same
    ∙ ap (λ t. form_step (O.Cons (map operand_text es) t)) tail.1 ∙ sym (texts-Cons es tail.0))
form_layer (O.Neg part) =
    subst FormSame (sym (F.rolls-Neg part.0))
    (ap Exprs.form_text (Exprs.bare-Neg part.0) ∙ texts-Neg (expr_unplaced part.0)
    ∙ ap (λ t. form_step (O.Neg t)) part.1 ∙ sym (texts-Neg part.0))
form_layer (O.Op op a b) =
    subst FormSame (sym (F.rolls-Op op a.0 b.0))
    (ap Exprs.form_text (Exprs.bare-Op op a.0 b.0)
    ∙ texts-Op op (expr_unplaced a.0) (expr_unplaced b.0)
    ∙ ap (λ t. form_step (O.Op op t (operand_text (expr_unplaced b.0)))) a.1
    ∙ ap (λ t. form_step (O.Op op (operand_text a.0) t)) b.1 ∙ sym (texts-Op op a.0 b.0))

expr_same : (e : PExpr) → ExprSame e
expr_same = ind-PExpr FormSame ExprSame
    (λ x y is. subst (λ w. FormSame (roll-PForm w)) is (form_layer y))
    (λ x y is. subst (λ (w : PExpr-F PForm PExpr). ExprSame (at_spot w.spot w.form)) is
    (expr_same_at y.spot y.form.0 y.form.1))

expr_texts : (e : PExpr) → expr_text (expr_unplaced e) ≡ expr_text e
expr_texts e = ap (λ t. t 0) (expr_same e)

exprs_texts : (es : List PExpr) → exprs_text (map expr_unplaced es) ≡ exprs_text es
exprs_texts es = ap row (maps operand_text expr_unplaced es (each ExprSame es expr_same))

-- conditions
abbrev SimpleSame : PSimple → Type 0
SimpleSame s = simple_text (simple_unplaced s) ≡ simple_text s

abbrev CondSame : PCond → Type 0
CondSame c = cond_text (cond_unplaced c) ≡ cond_text c

simple_layer : (y : T.PSimple-F ((s : PSimple) × SimpleSame s) ((c : PCond) × CondSame c)) →
    SimpleSame (roll-PSimple (map-PSimple _ _ PSimple PCond (λ e. e.0) (λ e. e.0) y))
simple_layer (T.Compare kind a b) =
    subst SimpleSame (sym (S.rolls-Compare kind a b))
    (ap simple_text (Conds.bare-Compare kind a b)
    ∙ Conds.text-Compare kind (expr_unplaced a) (expr_unplaced b)
    ∙ ap (λ t. t ++ comparison kind ++ expr_text (expr_unplaced b)) (expr_texts a)
    ∙ ap (λ t. expr_text a ++ comparison kind ++ t) (expr_texts b)
    ∙ sym (Conds.text-Compare kind a b))
simple_layer (T.Bare a) =
    subst SimpleSame (sym (S.rolls-Bare a))
    (ap simple_text (Conds.bare-Bare a) ∙ Conds.text-Bare (expr_unplaced a) ∙ expr_texts a
    ∙ sym (Conds.text-Bare a))
simple_layer (T.Not part) =
    subst SimpleSame (sym (S.rolls-Not part.0))
    (ap simple_text (Conds.bare-Not part.0) ∙ Conds.text-Not (cond_unplaced part.0)
    ∙ ap (λ t. codes "!" ++ in_parentheses t) part.1 ∙ sym (Conds.text-Not part.0))

lists_same : (parts : List (List ((s : PSimple) × SimpleSame s))) →
    map (map simple_text) (map (map simple_unplaced) (map (map (λ e. e.0)) parts))
    ≡ map (map simple_text) (map (map (λ e. e.0)) parts)
lists_same [] = refl
lists_same (part ∷ parts) =
    let later = map (map (λ e. e.0)) parts in
    ap (λ y. y ∷ map (map simple_text) (map (map simple_unplaced) later))
    (maps simple_text simple_unplaced (map (λ e. e.0) part) (each_part SimpleSame part))
    ∙ ap (λ ys. map simple_text (map (λ e. e.0) part) ∷ ys) (lists_same parts)

cond_layer : (y : PCond-F ((s : PSimple) × SimpleSame s) ((c : PCond) × CondSame c)) →
    CondSame (any_of (map (map (λ e. e.0)) y.any))
cond_layer y =
    let all : List (List PSimple) = map (map (λ e. e.0)) y.any in
    ap cond_text (Conds.bare-any all) ∙ Conds.text-any (map (map simple_unplaced) all)
    ∙ ap (λ ts. join_by all_step (codes " || ") ts) (lists_same y.any) ∙ sym (Conds.text-any all)

cond_same : (c : PCond) → CondSame c
cond_same = ind-PCond SimpleSame CondSame
    (λ x y is. subst (λ w. SimpleSame (roll-PSimple w)) is (simple_layer y))
    (λ x y is. subst (λ (w : PCond-F PSimple PCond). CondSame (any_of w.any)) is (cond_layer y))

-- inscriptions
after_same : (e : Option PExpr) → after_place (option_map expr_unplaced e) ≡ after_place e
after_same None = refl
after_same (Some e) = ap (λ t. codes ": " ++ t) (expr_texts e)

inscribed_same : (f : PInscribed) → inscribed_text (inscribed_unplaced f) ≡ inscribed_text f
inscribed_same (I.Arc kind place e) = ap (λ t. arc_word kind ++ place.text ++ t) (after_same e)
inscribed_same (I.Guard c) = ap (λ t. codes "guard " ++ t) (cond_same c)
inscribed_same (I.Print e) = ap (λ t. codes "action print " ++ t) (expr_texts e)
inscribed_same (I.Set x e) = ap (λ t. codes "action " ++ x.text ++ codes " = " ++ t) (expr_texts e)
inscribed_same (I.Uplink ch es) = ap (λ t. codes ":" ++ (ch.text ++ in_parentheses t)) (exprs_texts es)
inscribed_same (I.New x n) = refl
inscribed_same (I.Downlink e ch es) =
    ap (λ t. t ++ codes ":" ++ (ch.text ++ in_parentheses (exprs_text (map expr_unplaced es)))) (expr_texts e)
    ∙ ap (λ t. expr_text e ++ codes ":" ++ (ch.text ++ in_parentheses t)) (exprs_texts es)
inscribed_same (I.Equality a b) =
    ap (λ t. t ++ codes " = " ++ expr_text (expr_unplaced b)) (expr_texts a)
    ∙ ap (λ t. expr_text a ++ codes " = " ++ t) (expr_texts b)

-- declarations
channel_same : (c : PChannel) → channel_text (channel_unplaced c) ≡ channel_text c
channel_same c =
    ap (λ ts. codes "channel " ++ c.name.text ++ in_parentheses (listed ts) ++ codes ";\n")
    (maps kind_text kind_unplaced c.kinds (each KindSame c.kinds kind_same))

var_same : (v : PVar) → var_text (var_unplaced v) ≡ var_text v
var_same v =
    ap (λ t. codes "  var " ++ v.name.text ++ codes ": " ++ t ++ codes ";\n") (kind_same v.kind)

initial_same : (items : List PConst) →
    initial_text (map constant_unplaced items) ≡ initial_text items
initial_same [] = refl
initial_same (item ∷ items) =
    ap (λ ts. codes " = " ++ separated (codes ", ") ts)
    (maps constant_text constant_unplaced (item ∷ items) (each ConstSame (item ∷ items) const_same))

capacity_same : (max : Option PMax) → capacity_text (option_map max_unplaced max) ≡ capacity_text max
capacity_same None = refl
capacity_same (Some max) = refl

place_same : (p : PPlace) → place_text (place_unplaced p) ≡ place_text p
place_same p =
    let start = codes "  place " ++ p.name.text ++ codes ": " in
    ap (λ t. start ++ t ++ capacity_text (option_map max_unplaced p.max)
    ++ initial_text (map constant_unplaced p.initial) ++ codes ";\n") (kind_same p.kind)
    ∙ ap (λ t. start ++ kind_text p.kind ++ t ++ initial_text (map constant_unplaced p.initial)
    ++ codes ";\n") (capacity_same p.max)
    ∙ ap (λ t. start ++ kind_text p.kind ++ capacity_text p.max ++ t ++ codes ";\n")
    (initial_same p.initial)

together_same : (f g : PInscribed) →
    go_together (inscribed_unplaced f) (inscribed_unplaced g) ≡ go_together f g
together_same (I.Arc kind place (Some e)) (I.Arc other name (Some f)) = refl
together_same _ _ = refl

added_same : (f : PInscribed) → added_text (inscribed_unplaced f) ≡ added_text f
added_same (I.Arc kind place (Some e)) = ap (λ t. codes ", " ++ t) (expr_texts e)
added_same _ = refl

following_same : (notation : ℕ) (i j : PInscription) →
    following_text notation (inscription_unplaced i) (inscription_unplaced j)
    ≡ following_text notation i j
following_same notation i j =
    let added = added_text (inscribed_unplaced j.form) in
    let line = codes ";\n    " ++ inscribed_text (inscribed_unplaced j.form) in
    ap (λ b. if nat_eq notation 2 && b then added else line) (together_same i.form j.form)
    ∙ ap (λ t. if goes_on notation i j then t else line) (added_same j.form)
    ∙ ap (λ t. if goes_on notation i j then added_text j.form else codes ";\n    " ++ t) (inscribed_same j.form)

later_same : (notation : ℕ) (i : PInscription) (items : List PInscription) →
    later_text notation (inscription_unplaced i) (map inscription_unplaced items)
    ≡ later_text notation i items
later_same notation i [] = refl
later_same notation i (j ∷ items) =
    ap (λ t. t ++ later_text notation (inscription_unplaced j) (map inscription_unplaced items))
    (following_same notation i j)
    ∙ ap (λ t. following_text notation i j ++ t) (later_same notation j items)

inscriptions_same : (notation : ℕ) (items : List PInscription) →
    inscriptions_text notation (map inscription_unplaced items) ≡ inscriptions_text notation items
inscriptions_same notation [] = refl
inscriptions_same notation (i ∷ items) =
    ap (λ t. codes "    " ++ t ++ later_text notation (inscription_unplaced i) (map inscription_unplaced items))
    (inscribed_same i.form)
    ∙ ap (λ t. codes "    " ++ inscribed_text i.form ++ t) (later_same notation i items)

transition_same : (notation : ℕ) (t : PTransition) →
    transition_text notation (transition_unplaced t) ≡ transition_text notation t
transition_same notation t =
    ap (λ lines. codes "  trans " ++ t.name.text ++ codes " {\n" ++ lines ++ codes "  }\n")
    (inscriptions_same notation t.inscriptions)

net_same : (notation : ℕ) (n : PNet) → net_text notation (net_unplaced n) ≡ net_text notation n
net_same notation n =
    let start = codes "net " ++ n.name.text ++ codes " {\n" in
    ap (λ t. start ++ t ++ flat_map place_text (map place_unplaced n.places)
    ++ flat_map (transition_text notation) (map transition_unplaced n.transitions) ++ codes "}\n")
    (joins var_text var_unplaced n.vars var_same)
    ∙ ap (λ t. start ++ flat_map var_text n.vars ++ t
    ++ flat_map (transition_text notation) (map transition_unplaced n.transitions) ++ codes "}\n")
    (joins place_text place_unplaced n.places place_same)
    ∙ ap (λ t. start ++ flat_map var_text n.vars ++ flat_map place_text n.places ++ t ++ codes "}\n")
    (joins (transition_text notation) transition_unplaced n.transitions (transition_same notation))

unplaced_same : (p : Plain) → canonical_text (unplaced p) ≡ canonical_text p
unplaced_same p =
    ap (λ t. notation_text p.notation ++ t ++ flat_map (net_text p.notation) (map net_unplaced p.nets))
    (joins channel_text channel_unplaced p.channels channel_same)
    ∙ ap (λ t. notation_text p.notation ++ flat_map channel_text p.channels ++ t)
    (joins (net_text p.notation) net_unplaced p.nets (net_same p.notation))

pub same_text : (p q : Plain) → SameButSpots p q → canonical_text p ≡ canonical_text q
same_text p q is = sym (unplaced_same p) ∙ ap canonical_text is ∙ unplaced_same q
