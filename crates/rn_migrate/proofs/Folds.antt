-- Folds of kinds, constants, expressions and conditions whose spots are put at the first byte. A
-- fold that is told how it changes with the spots is known for all of them.
use Rattle.std.proofs.Common.{◌≡◌, List, [], ◌∷◌, map, refl, sym, ap, ◌∙◌, subst}
use Rattle.std.specs.List.{AllByRecursion}
use Rattle.rn_notation.specs.declared.token.Spot.{Spot}
use Rattle.rn_model.specs.declared.expr.CompareKind.{CompareKind}
use Rattle.rn_inscript.specs.declared.exprs.PExpr.{PExpr, PExpr-F, ind-PExpr, fold-PExpr, fold-roll-PExpr}
use Rattle.rn_inscript.specs.declared.exprs.PForm.{PForm, fold-PForm, fold-roll-PForm, map-PForm, roll-PForm}
use Rattle.rn_inscript.specs.declared.exprs.PForm.TheOpen as O
use Rattle.rn_inscript.specs.declared.conds.PCond.{PCond, PCond-F, ind-PCond, fold-PCond, fold-roll-PCond, roll-PCond}
use Rattle.rn_inscript.specs.declared.conds.PSimple.{PSimple, fold-PSimple, fold-roll-PSimple, map-PSimple, roll-PSimple}
use Rattle.rn_inscript.specs.declared.conds.PSimple.TheVariants as S
use Rattle.rn_inscript.specs.declared.conds.PSimple.TheOpen as T
use Rattle.rn_inscript.specs.Expressions.{at_spot}
use Rattle.rn_inscript.specs.Conditions.{any_of}
use Rattle.rn_net.specs.declared.kinds.PKind.{PKind, PKind-F, ind-PKind, fold-PKind, fold-roll-PKind}
use Rattle.rn_net.specs.declared.kinds.PKindForm.{PKindForm, fold-PKindForm, fold-roll-PKindForm, map-PKindForm, roll-PKindForm}
use Rattle.rn_net.specs.declared.kinds.PKindForm.TheOpen as K
use Rattle.rn_net.specs.declared.constants.PConst.{PConst, PConst-F, ind-PConst, fold-PConst, fold-roll-PConst}
use Rattle.rn_net.specs.declared.constants.PConstForm.{PConstForm, fold-PConstForm, fold-roll-PConstForm, map-PConstForm, roll-PConstForm}
use Rattle.rn_net.specs.declared.constants.PConstForm.TheOpen as C
use Rattle.rn_net.specs.Kinds.{kind_at}
use Rattle.rn_net.specs.Constants.{constant_at}
use Rattle.rn_print.specs.SameButSpots.{first_spot, kind_moved, kind_unplaced, constant_moved, constant_unplaced, expr_moved, expr_unplaced, simple_moved, cond_unplaced, simple_unplaced}
use Rattle.rn_print.proofs.SameTexts.{each_part}

-- where a function after another one is a third after it in each element, so it is in their list
commute : {A B : Type 0} (f : A → B) (u : A → A) (b : B → B) (xs : List A) →
    AllByRecursion (λ x. f (u x) ≡ b (f x)) xs → map f (map u xs) ≡ map b (map f xs)
commute f u b [] all = refl
commute f u b (x ∷ xs) (is, all) =
    ap (λ y. y ∷ map f (map u xs)) is ∙ ap (λ ys. b (f x) ∷ ys) (commute f u b xs all)

-- kinds
abbrev kind_form : PKindForm → PKindForm
kind_form = fold-PKindForm PKindForm PKind roll-PKindForm kind_moved

kind_parts : (A B : Type 0) (f : K.PKindForm-F A B → A) (g : PKind-F A B → B) (b : B → B)
    (P : PKindForm → Type 0)
    (y : K.PKindForm-F ((x : PKindForm) × P x)
    ((k : PKind) × (fold-PKind A B f g (kind_unplaced k) ≡ b (fold-PKind A B f g k)))) →
    map-PKindForm PKindForm PKind A B (fold-PKindForm A B f g) (fold-PKind A B f g)
    (map-PKindForm PKindForm PKind PKindForm PKind kind_form kind_unplaced
    (map-PKindForm _ _ PKindForm PKind (λ e. e.0) (λ e. e.0) y))
    ≡ map-PKindForm A B A B (λ x. x) b
    (map-PKindForm PKindForm PKind A B (fold-PKindForm A B f g) (fold-PKind A B f g)
    (map-PKindForm _ _ PKindForm PKind (λ e. e.0) (λ e. e.0) y))
kind_parts A B f g b P K.Int = refl
kind_parts A B f g b P K.Text = refl
kind_parts A B f g b P K.Net = refl
kind_parts A B f g b P (K.Tuple parts) =
    ap (λ ks. K.Tuple ks) (commute (fold-PKind A B f g) kind_unplaced b (map (λ e. e.0) parts)
    (each_part (λ k. fold-PKind A B f g (kind_unplaced k) ≡ b (fold-PKind A B f g k)) parts))
kind_parts A B f g b P (K.List part) = ap (λ k. K.List k) part.1

pub kind_fold : (A B : Type 0) (f : K.PKindForm-F A B → A) (g : PKind-F A B → B)
    (R : A → A → Type 0) (b : B → B) →
    ((y : K.PKindForm-F A B) → R (f y) (f (map-PKindForm A B A B (λ x. x) b y))) →
    ((s : Spot) (x z : A) → R x z →
    g (record { form = z; spot = first_spot }) ≡ b (g (record { form = x; spot = s }))) →
    (k : PKind) → fold-PKind A B f g (kind_unplaced k) ≡ b (fold-PKind A B f g k)
kind_fold A B f g R b on_form on_kind =
    let form_of = fold-PKindForm A B f g in
    let kind_of = fold-PKind A B f g in
    ind-PKind
    (λ form. R (form_of form) (form_of (kind_form form)))
    (λ k. kind_of (kind_unplaced k) ≡ b (kind_of k))
    (λ x y is. subst (λ w. R (form_of (roll-PKindForm w)) (form_of (kind_form (roll-PKindForm w)))) is
    (let z = map-PKindForm _ _ PKindForm PKind (λ e. e.0) (λ e. e.0) y in
    let bare = map-PKindForm PKindForm PKind PKindForm PKind kind_form kind_unplaced z in
    let same = ap form_of (fold-roll-PKindForm PKindForm PKind roll-PKindForm kind_moved z)
    ∙ fold-roll-PKindForm A B f g bare ∙ ap f (kind_parts A B f g b _ y) in
    subst (λ t. R t (form_of (kind_form (roll-PKindForm z)))) (sym (fold-roll-PKindForm A B f g z))
    (subst (R (f (map-PKindForm PKindForm PKind A B form_of kind_of z))) (sym same)
    (on_form (map-PKindForm PKindForm PKind A B form_of kind_of z)))))
    (λ x y is. subst (λ (w : PKind-F PKindForm PKind). kind_of (kind_unplaced (kind_at w.spot w.form)) ≡ b (kind_of (kind_at w.spot w.form))) is
    (let form = y.form.0 in
    ap kind_of (fold-roll-PKind PKindForm PKind roll-PKindForm kind_moved (record { form = form; spot = y.spot }))
    ∙ fold-roll-PKind A B f g (record { form = kind_form form; spot = first_spot })
    ∙ on_kind y.spot (form_of form) (form_of (kind_form form)) y.form.1
    ∙ ap b (sym (fold-roll-PKind A B f g (record { form = form; spot = y.spot })))))

-- constants
abbrev constant_form : PConstForm → PConstForm
constant_form = fold-PConstForm PConstForm PConst roll-PConstForm constant_moved

constant_parts : (A B : Type 0) (f : C.PConstForm-F A B → A) (g : PConst-F A B → B) (b : B → B)
    (P : PConstForm → Type 0)
    (y : C.PConstForm-F ((x : PConstForm) × P x)
    ((c : PConst) × (fold-PConst A B f g (constant_unplaced c) ≡ b (fold-PConst A B f g c)))) →
    map-PConstForm PConstForm PConst A B (fold-PConstForm A B f g) (fold-PConst A B f g)
    (map-PConstForm PConstForm PConst PConstForm PConst constant_form constant_unplaced
    (map-PConstForm _ _ PConstForm PConst (λ e. e.0) (λ e. e.0) y))
    ≡ map-PConstForm A B A B (λ x. x) b
    (map-PConstForm PConstForm PConst A B (fold-PConstForm A B f g) (fold-PConst A B f g)
    (map-PConstForm _ _ PConstForm PConst (λ e. e.0) (λ e. e.0) y))
constant_parts A B f g b P (C.Int n) = refl
constant_parts A B f g b P (C.Text s) = refl
constant_parts A B f g b P (C.Tuple parts) =
    ap (λ cs. C.Tuple cs) (commute (fold-PConst A B f g) constant_unplaced b (map (λ e. e.0) parts)
    (each_part (λ c. fold-PConst A B f g (constant_unplaced c) ≡ b (fold-PConst A B f g c)) parts))
constant_parts A B f g b P (C.List parts) =
    ap (λ cs. C.List cs) (commute (fold-PConst A B f g) constant_unplaced b (map (λ e. e.0) parts)
    (each_part (λ c. fold-PConst A B f g (constant_unplaced c) ≡ b (fold-PConst A B f g c)) parts))

pub constant_fold : (A B : Type 0) (f : C.PConstForm-F A B → A) (g : PConst-F A B → B)
    (R : A → A → Type 0) (b : B → B) →
    ((y : C.PConstForm-F A B) → R (f y) (f (map-PConstForm A B A B (λ x. x) b y))) →
    ((s : Spot) (x z : A) → R x z →
    g (record { form = z; spot = first_spot }) ≡ b (g (record { form = x; spot = s }))) →
    (c : PConst) → fold-PConst A B f g (constant_unplaced c) ≡ b (fold-PConst A B f g c)
constant_fold A B f g R b on_form on_constant =
    let form_of = fold-PConstForm A B f g in
    let constant_of = fold-PConst A B f g in
    ind-PConst
    (λ form. R (form_of form) (form_of (constant_form form)))
    (λ c. constant_of (constant_unplaced c) ≡ b (constant_of c))
    (λ x y is. subst (λ w. R (form_of (roll-PConstForm w)) (form_of (constant_form (roll-PConstForm w)))) is
    (let z = map-PConstForm _ _ PConstForm PConst (λ e. e.0) (λ e. e.0) y in
    let bare = map-PConstForm PConstForm PConst PConstForm PConst constant_form constant_unplaced z in
    let same = ap form_of (fold-roll-PConstForm PConstForm PConst roll-PConstForm constant_moved z)
    ∙ fold-roll-PConstForm A B f g bare ∙ ap f (constant_parts A B f g b _ y) in
    subst (λ t. R t (form_of (constant_form (roll-PConstForm z)))) (sym (fold-roll-PConstForm A B f g z))
    (subst (R (f (map-PConstForm PConstForm PConst A B form_of constant_of z))) (sym same)
    (on_form (map-PConstForm PConstForm PConst A B form_of constant_of z)))))
    (λ x y is. subst (λ (w : PConst-F PConstForm PConst). constant_of (constant_unplaced (constant_at w.spot w.form)) ≡ b (constant_of (constant_at w.spot w.form))) is
    (let form = y.form.0 in
    ap constant_of (fold-roll-PConst PConstForm PConst roll-PConstForm constant_moved (record { form = form; spot = y.spot }))
    ∙ fold-roll-PConst A B f g (record { form = constant_form form; spot = first_spot })
    ∙ on_constant y.spot (form_of form) (form_of (constant_form form)) y.form.1
    ∙ ap b (sym (fold-roll-PConst A B f g (record { form = form; spot = y.spot })))))

-- expressions
abbrev expr_form : PForm → PForm
expr_form = fold-PForm PForm PExpr roll-PForm expr_moved

expr_parts : (A B : Type 0) (f : O.PForm-F A B → A) (g : PExpr-F A B → B) (b : B → B)
    (P : PForm → Type 0)
    (y : O.PForm-F ((x : PForm) × P x)
    ((e : PExpr) × (fold-PExpr A B f g (expr_unplaced e) ≡ b (fold-PExpr A B f g e)))) →
    map-PForm PForm PExpr A B (fold-PForm A B f g) (fold-PExpr A B f g)
    (map-PForm PForm PExpr PForm PExpr expr_form expr_unplaced
    (map-PForm _ _ PForm PExpr (λ e. e.0) (λ e. e.0) y))
    ≡ map-PForm A B A B (λ x. x) b
    (map-PForm PForm PExpr A B (fold-PForm A B f g) (fold-PExpr A B f g)
    (map-PForm _ _ PForm PExpr (λ e. e.0) (λ e. e.0) y))
expr_parts A B f g b P (O.Int n) = refl
expr_parts A B f g b P (O.Text s) = refl
expr_parts A B f g b P (O.Name s) = refl
expr_parts A B f g b P O.This = refl
expr_parts A B f g b P O.Step = refl
expr_parts A B f g b P (O.Tuple parts) =
    ap (λ es. O.Tuple es) (commute (fold-PExpr A B f g) expr_unplaced b (map (λ e. e.0) parts)
    (each_part (λ e. fold-PExpr A B f g (expr_unplaced e) ≡ b (fold-PExpr A B f g e)) parts))
expr_parts A B f g b P (O.List parts) =
    ap (λ es. O.List es) (commute (fold-PExpr A B f g) expr_unplaced b (map (λ e. e.0) parts)
    (each_part (λ e. fold-PExpr A B f g (expr_unplaced e) ≡ b (fold-PExpr A B f g e)) parts))
expr_parts A B f g b P (O.Cons parts tail) =
    let one = fold-PExpr A B f g in
    let es : List PExpr = map (λ e. e.0) parts in
    ap (λ ts. O.Cons ts (one (expr_unplaced tail.0))) (commute one expr_unplaced b es
    (each_part (λ e. one (expr_unplaced e) ≡ b (one e)) parts))
    ∙ ap (λ t. O.Cons (map b (map one es)) t) tail.1
expr_parts A B f g b P (O.Neg part) = ap (λ e. O.Neg e) part.1
expr_parts A B f g b P (O.Op op left right) =
    let one = fold-PExpr A B f g in
    ap (λ t. O.Op op t (one (expr_unplaced right.0))) left.1
    ∙ ap (λ t. O.Op op (b (one left.0)) t) right.1

pub expr_fold : (A B : Type 0) (f : O.PForm-F A B → A) (g : PExpr-F A B → B)
    (R : A → A → Type 0) (b : B → B) →
    ((y : O.PForm-F A B) → R (f y) (f (map-PForm A B A B (λ x. x) b y))) →
    ((s : Spot) (x z : A) → R x z →
    g (record { form = z; spot = first_spot }) ≡ b (g (record { form = x; spot = s }))) →
    (e : PExpr) → fold-PExpr A B f g (expr_unplaced e) ≡ b (fold-PExpr A B f g e)
expr_fold A B f g R b on_form on_expr =
    let form_of = fold-PForm A B f g in
    let expr_of = fold-PExpr A B f g in
    ind-PExpr
    (λ form. R (form_of form) (form_of (expr_form form)))
    (λ e. expr_of (expr_unplaced e) ≡ b (expr_of e))
    (λ x y is. subst (λ w. R (form_of (roll-PForm w)) (form_of (expr_form (roll-PForm w)))) is
    (let z = map-PForm _ _ PForm PExpr (λ e. e.0) (λ e. e.0) y in
    let bare = map-PForm PForm PExpr PForm PExpr expr_form expr_unplaced z in
    let same = ap form_of (fold-roll-PForm PForm PExpr roll-PForm expr_moved z)
    ∙ fold-roll-PForm A B f g bare ∙ ap f (expr_parts A B f g b _ y) in
    subst (λ t. R t (form_of (expr_form (roll-PForm z)))) (sym (fold-roll-PForm A B f g z))
    (subst (R (f (map-PForm PForm PExpr A B form_of expr_of z))) (sym same)
    (on_form (map-PForm PForm PExpr A B form_of expr_of z)))))
    (λ x y is. subst (λ (w : PExpr-F PForm PExpr). expr_of (expr_unplaced (at_spot w.spot w.form)) ≡ b (expr_of (at_spot w.spot w.form))) is
    (let form = y.form.0 in
    ap expr_of (fold-roll-PExpr PForm PExpr roll-PForm expr_moved (record { form = form; spot = y.spot }))
    ∙ fold-roll-PExpr A B f g (record { form = expr_form form; spot = first_spot })
    ∙ on_expr y.spot (form_of form) (form_of (expr_form form)) y.form.1
    ∙ ap b (sym (fold-roll-PExpr A B f g (record { form = form; spot = y.spot })))))

-- conditions
lists : {A : Type 0} (f : PSimple → A) (a : A → A)
    (parts : List (List ((s : PSimple) × (f (simple_unplaced s) ≡ a (f s))))) →
    map (map f) (map (map simple_unplaced) (map (map (λ e. e.0)) parts))
    ≡ map (map a) (map (map f) (map (map (λ e. e.0)) parts))
lists f a [] = refl
lists f a (part ∷ parts) =
    let later : List (List PSimple) = map (map (λ e. e.0)) parts in
    ap (λ y. y ∷ map (map f) (map (map simple_unplaced) later))
    (commute f simple_unplaced a (map (λ e. e.0) part)
    (each_part (λ s. f (simple_unplaced s) ≡ a (f s)) part))
    ∙ ap (λ ys. map a (map f (map (λ e. e.0) part)) ∷ ys) (lists f a parts)

-- what is so of a fold over one layer of conditions
pub record Steps (A B : Type 0) (f : T.PSimple-F A B → A) (g : PCond-F A B → B) (a : A → A)
    (b : B → B) : Type 0 where
  pub compared : (kind : CompareKind) (x y : PExpr) →
      f (T.Compare kind (expr_unplaced x) (expr_unplaced y)) ≡ a (f (T.Compare kind x y))
  pub bare : (x : PExpr) → f (T.Bare (expr_unplaced x)) ≡ a (f (T.Bare x))
  pub negated : (c : B) → f (T.Not (b c)) ≡ a (f (T.Not c))
  pub joined : (any : List (List A)) →
      g (record { any = map (map a) any }) ≡ b (g (record { any = any }))

simple_layer : (A B : Type 0) (f : T.PSimple-F A B → A) (g : PCond-F A B → B) (a : A → A)
    (b : B → B) → Steps A B f g a b →
    (P : PSimple → Type 0) (y : T.PSimple-F ((s : PSimple) × P s)
    ((c : PCond) × (fold-PCond A B f g (cond_unplaced c) ≡ b (fold-PCond A B f g c)))) →
    fold-PSimple A B f g (simple_unplaced
    (roll-PSimple (map-PSimple _ _ PSimple PCond (λ e. e.0) (λ e. e.0) y)))
    ≡ a (fold-PSimple A B f g
    (roll-PSimple (map-PSimple _ _ PSimple PCond (λ e. e.0) (λ e. e.0) y)))
simple_layer A B f g a b steps P (T.Compare kind x y) =
    let one = fold-PSimple A B f g in
    ap one (fold-roll-PSimple PSimple PCond simple_moved roll-PCond (T.Compare kind x y)
    ∙ sym (S.rolls-Compare kind (expr_unplaced x) (expr_unplaced y)))
    ∙ fold-roll-PSimple A B f g (T.Compare kind (expr_unplaced x) (expr_unplaced y))
    ∙ steps.compared kind x y ∙ ap a (sym (fold-roll-PSimple A B f g (T.Compare kind x y)))
simple_layer A B f g a b steps P (T.Bare x) =
    let one = fold-PSimple A B f g in
    ap one (fold-roll-PSimple PSimple PCond simple_moved roll-PCond (T.Bare x)
    ∙ sym (S.rolls-Bare (expr_unplaced x)))
    ∙ fold-roll-PSimple A B f g (T.Bare (expr_unplaced x))
    ∙ steps.bare x ∙ ap a (sym (fold-roll-PSimple A B f g (T.Bare x)))
simple_layer A B f g a b steps P (T.Not part) =
    let one = fold-PSimple A B f g in
    ap one (fold-roll-PSimple PSimple PCond simple_moved roll-PCond (T.Not part.0)
    ∙ sym (S.rolls-Not (cond_unplaced part.0)))
    ∙ fold-roll-PSimple A B f g (T.Not (cond_unplaced part.0))
    ∙ ap (λ c. f (T.Not c)) part.1
    ∙ steps.negated (fold-PCond A B f g part.0)
    ∙ ap a (sym (fold-roll-PSimple A B f g (T.Not part.0)))

pub cond_fold : (A B : Type 0) (f : T.PSimple-F A B → A) (g : PCond-F A B → B) (a : A → A)
    (b : B → B) → Steps A B f g a b → (c : PCond) →
    fold-PCond A B f g (cond_unplaced c) ≡ b (fold-PCond A B f g c)
cond_fold A B f g a b steps =
    let simple_of = fold-PSimple A B f g in
    let cond_of = fold-PCond A B f g in
    ind-PCond
    (λ s. simple_of (simple_unplaced s) ≡ a (simple_of s))
    (λ c. cond_of (cond_unplaced c) ≡ b (cond_of c))
    (λ x y is. subst (λ w. simple_of (simple_unplaced (roll-PSimple w)) ≡ a (simple_of (roll-PSimple w))) is
    (simple_layer A B f g a b steps _ y))
    (λ x y is. subst (λ (w : PCond-F PSimple PCond). cond_of (cond_unplaced (any_of w.any)) ≡ b (cond_of (any_of w.any))) is
    (let all : List (List PSimple) = map (map (λ e. e.0)) y.any in
    ap cond_of (fold-roll-PCond PSimple PCond simple_moved roll-PCond (record { any = all }))
    ∙ fold-roll-PCond A B f g (record { any = map (map simple_unplaced) all })
    ∙ ap (λ any. g (record { any = any })) (lists simple_of a y.any)
    ∙ steps.joined (map (map simple_of) all)
    ∙ ap b (sym (fold-roll-PCond A B f g (record { any = all })))))
