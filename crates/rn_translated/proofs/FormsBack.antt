-- What is the same as the translation but for its spots stands for the net too.
use Rattle.std.proofs.Common.{◌≡◌, ℕ, zero, suc, Bool, true, false, cond, List, [], ◌∷◌, map, length, refl, sym, ap, ◌∙◌}
use Rattle.std.specs.Prelude.{Option, Some, None, option_map, All, nat_lt, replicate}
use Rattle.std.specs.List.{AllZip}
use Rattle.std.proofs.lemmas.List.Elements.{All-nil, All-cons}
use Rattle.rn_model.specs.declared.system.ArcKind.{ArcKind}
use Rattle.rn_inscript.specs.declared.exprs.PExpr.{PExpr, out-PExpr, fold_out-PExpr, out-roll-PExpr, roll-out-PExpr}
use Rattle.rn_inscript.specs.declared.exprs.PForm.{PForm, out-PForm, roll-PForm, map-PForm, fold-PForm, fold_out-PForm, out-roll-PForm, roll-out-PForm}
use Rattle.rn_inscript.specs.declared.exprs.PForm.TheVariants as F
use Rattle.rn_inscript.specs.declared.exprs.PForm.TheOpen as O
use Rattle.rn_inscript.specs.declared.inscriptions.PName.{PName}
use Rattle.rn_inscript.specs.declared.inscriptions.PInscribed.{PInscribed}
use Rattle.rn_inscript.specs.declared.inscriptions.PInscribed.TheVariants as I
use Rattle.rn_inscript.specs.declared.inscriptions.PInscription.{PInscription}
use Rattle.rn_inscript.specs.Expressions.{at_spot}
use Rattle.rn_inscript.specs.Inscriptions.{name_at}
use Rattle.rn_net.specs.declared.kinds.PKind.{PKind, out-PKind, fold_out-PKind, out-roll-PKind, roll-out-PKind}
use Rattle.rn_net.specs.declared.kinds.PKindForm.{PKindForm, out-PKindForm, roll-PKindForm, map-PKindForm, fold-PKindForm, fold_out-PKindForm, out-roll-PKindForm, roll-out-PKindForm}
use Rattle.rn_net.specs.declared.kinds.PKindForm.TheVariants as K
use Rattle.rn_net.specs.declared.kinds.PKindForm.TheOpen as KO
use Rattle.rn_net.specs.declared.constants.PConst.{PConst, out-PConst, fold_out-PConst, out-roll-PConst, roll-out-PConst}
use Rattle.rn_net.specs.declared.constants.PConstForm.{PConstForm, out-PConstForm, roll-PConstForm, map-PConstForm, fold-PConstForm, fold_out-PConstForm, out-roll-PConstForm, roll-out-PConstForm}
use Rattle.rn_net.specs.declared.constants.PConstForm.TheVariants as C
use Rattle.rn_net.specs.declared.constants.PConstForm.TheOpen as CO
use Rattle.rn_net.specs.declared.plain.Plain.{Plain}
use Rattle.rn_net.specs.declared.plain.PNet.{PNet}
use Rattle.rn_net.specs.declared.plain.PPlace.{PPlace}
use Rattle.rn_net.specs.declared.plain.PMax.{PMax}
use Rattle.rn_net.specs.declared.plain.PTransition.{PTransition}
use Rattle.rn_net.specs.Kinds.{kind_at}
use Rattle.rn_net.specs.Constants.{constant_at}
use Rattle.rn_print.specs.SameButSpots.{SameButSpots, first_spot, kind_unplaced, kind_moved, constant_unplaced, constant_moved, expr_unplaced, expr_moved, name_unplaced, inscribed_unplaced, inscription_unplaced, channel_unplaced, var_unplaced, max_unplaced, place_unplaced, transition_unplaced, net_unplaced}
use Rattle.rn_weighted.specs.declared.weighted.Weighted.{Weighted}
use Rattle.rn_weighted.specs.declared.weighted.WPlace.{WPlace}
use Rattle.rn_weighted.specs.declared.weighted.WTransition.{WTransition}
use Rattle.rn_weighted.specs.declared.weighted.WArc.{WArc}
use Rattle.rn_translated.specs.TranslatedSystem.{flexible}
use Rattle.rn_translated.specs.Translation.{first, named, black_token, black_expr, black_list, place_name, plain_place, plain_arc, plain_transition, plain_net, translated}
use Rattle.rn_translated.proofs.FormsOfNets.{IsToken, IsTokenExpr, IsPlaceForm, IsWeight, form_kind, IsArcForm, IsTransitionForm, IsNetForm, IsForm}

map_nil : {X Y : Type 0} (f : X → Y) (xs : List X) → map f xs ≡ [] → xs ≡ []
map_nil f [] e = refl
map_nil f (x ∷ xs) e = let never : ⊥ = cc in absurd never

heads : {X : Type 0} (x y : X) (xs ys : List X) → x ∷ xs ≡ y ∷ ys → x ≡ y
heads x y xs ys e = cc

tails : {X : Type 0} (x y : X) (xs ys : List X) → x ∷ xs ≡ y ∷ ys → xs ≡ ys
tails x y xs ys e = cc

zip_back : {X Y Z : Type 0} (R : X → Y → Type 0) (f : Y → Z) (h : X → Y) →
    ((x : X) (y : Y) → f y ≡ f (h x) → R x y) → (xs : List X) (ys : List Y) →
    map f ys ≡ map f (map h xs) → AllZip R xs ys
zip_back R f h back [] [] e = tt
zip_back R f h back (x ∷ xs) (y ∷ ys) e = (
  back x y (heads (f y) (f (h x)) (map f ys) (map f (map h xs)) e),
  zip_back R f h back xs ys (tails (f y) (f (h x)) (map f ys) (map f (map h xs)) e),
)
zip_back R f h back [] (y ∷ ys) e = let never : ⊥ = cc in absurd never
zip_back R f h back (x ∷ xs) [] e = let never : ⊥ = cc in absurd never

each_back : {X Z : Type 0} (P : X → Type 0) (f : X → Z) (x : X) →
    ((y : X) → f y ≡ f x → P y) → (n : ℕ) (ys : List X) → map f ys ≡ map f (replicate n x) →
    All P ys × (length ys ≡ n)
each_back P f x back zero [] e = (All-nil P, refl)
each_back P f x back (suc n) (y ∷ ys) e =
    let rest = each_back P f x back n ys
    (tails (f y) (f x) (map f ys) (map f (replicate n x)) e) in (
      All-cons P y ys (back y (heads (f y) (f x) (map f ys) (map f (replicate n x)) e)) rest.0,
      ap suc rest.1,
    )
each_back P f x back zero (y ∷ ys) e = let never : ⊥ = cc in absurd never
each_back P f x back (suc n) [] e = let never : ⊥ = cc in absurd never

-- kinds
abbrev kind_form : PKindForm → PKindForm
kind_form = fold-PKindForm PKindForm PKind roll-PKindForm kind_moved

abbrev kind_layer : KO.PKindForm-F PKindForm PKind → KO.PKindForm-F PKindForm PKind
kind_layer = map-PKindForm PKindForm PKind PKindForm PKind kind_form kind_unplaced

kind_opens : (k : PKind) →
    out-PKindForm (out-PKind (kind_unplaced k)).form
    ≡ kind_layer (out-PKindForm (out-PKind k).form)
kind_opens k =
    ap (λ x. out-PKindForm (out-PKind x).form)
    (fold_out-PKind PKindForm PKind roll-PKindForm kind_moved k)
    ∙ ap (λ x. out-PKindForm x.form)
    (out-roll-PKind (record { form = kind_form (out-PKind k).form; spot = first_spot }))
    ∙ ap out-PKindForm (fold_out-PKindForm PKindForm PKind roll-PKindForm kind_moved (out-PKind k).form)
    ∙ out-roll-PKindForm _

kind_cases : (z : KO.PKindForm-F PKindForm PKind) → kind_layer z ≡ KO.Tuple [] → z ≡ KO.Tuple []
kind_cases (KO.Tuple parts) e =
    let none : map kind_unplaced parts ≡ [] = cc in
    ap (λ ps. KO.Tuple ps) (map_nil kind_unplaced parts none)
kind_cases (KO.List part) e = let never : ⊥ = cc in absurd never
kind_cases KO.Int e = let never : ⊥ = cc in absurd never
kind_cases KO.Text e = let never : ⊥ = cc in absurd never
kind_cases KO.Net e = let never : ⊥ = cc in absurd never

kind_back : (k : PKind) → kind_unplaced k ≡ kind_unplaced (kind_at first (K.Tuple [])) →
    k ≡ kind_at (out-PKind k).spot (K.Tuple [])
kind_back k e =
    let target = kind_at first (K.Tuple []) in
    let opened : out-PKindForm (out-PKind target).form ≡ KO.Tuple [] =
    ap (λ x. out-PKindForm x.form) (out-roll-PKind (record { form = K.Tuple []; spot = first }))
    ∙ K.outs-Tuple [] in
    let layer = sym (kind_opens k) ∙ ap (λ x. out-PKindForm (out-PKind x).form) e
    ∙ kind_opens target ∙ ap kind_layer opened in
    let is = kind_cases (out-PKindForm (out-PKind k).form) layer in
    let form : (out-PKind k).form ≡ K.Tuple [] =
    sym (roll-out-PKindForm (out-PKind k).form) ∙ ap roll-PKindForm is ∙ K.rolls-Tuple [] in
    sym (roll-out-PKind k) ∙ ap (kind_at (out-PKind k).spot) form

-- tokens
abbrev const_form : PConstForm → PConstForm
const_form = fold-PConstForm PConstForm PConst roll-PConstForm constant_moved

abbrev const_layer : CO.PConstForm-F PConstForm PConst → CO.PConstForm-F PConstForm PConst
const_layer = map-PConstForm PConstForm PConst PConstForm PConst const_form constant_unplaced

const_opens : (k : PConst) →
    out-PConstForm (out-PConst (constant_unplaced k)).form
    ≡ const_layer (out-PConstForm (out-PConst k).form)
const_opens k =
    ap (λ x. out-PConstForm (out-PConst x).form)
    (fold_out-PConst PConstForm PConst roll-PConstForm constant_moved k)
    ∙ ap (λ x. out-PConstForm x.form)
    (out-roll-PConst (record { form = const_form (out-PConst k).form; spot = first_spot }))
    ∙ ap out-PConstForm
    (fold_out-PConstForm PConstForm PConst roll-PConstForm constant_moved (out-PConst k).form)
    ∙ out-roll-PConstForm _

const_cases : (z : CO.PConstForm-F PConstForm PConst) → const_layer z ≡ CO.Tuple [] →
    z ≡ CO.Tuple []
const_cases (CO.Tuple parts) e =
    let none : map constant_unplaced parts ≡ [] = cc in
    ap (λ ps. CO.Tuple ps) (map_nil constant_unplaced parts none)
const_cases (CO.List parts) e = let never : ⊥ = cc in absurd never
const_cases (CO.Int n) e = let never : ⊥ = cc in absurd never
const_cases (CO.Text s) e = let never : ⊥ = cc in absurd never

token_back : (k : PConst) → constant_unplaced k ≡ constant_unplaced black_token → IsToken k
token_back k e =
    let opened : out-PConstForm (out-PConst black_token).form ≡ CO.Tuple [] =
    ap (λ x. out-PConstForm x.form) (out-roll-PConst (record { form = C.Tuple []; spot = first }))
    ∙ C.outs-Tuple [] in
    let layer = sym (const_opens k) ∙ ap (λ x. out-PConstForm (out-PConst x).form) e
    ∙ const_opens black_token ∙ ap const_layer opened in
    let is = const_cases (out-PConstForm (out-PConst k).form) layer in
    let form : (out-PConst k).form ≡ C.Tuple [] =
    sym (roll-out-PConstForm (out-PConst k).form) ∙ ap roll-PConstForm is ∙ C.rolls-Tuple [] in
    ((out-PConst k).spot, sym (roll-out-PConst k) ∙ ap (constant_at (out-PConst k).spot) form)

-- expressions
abbrev expr_form : PForm → PForm
expr_form = fold-PForm PForm PExpr roll-PForm expr_moved

abbrev expr_layer : O.PForm-F PForm PExpr → O.PForm-F PForm PExpr
expr_layer = map-PForm PForm PExpr PForm PExpr expr_form expr_unplaced

expr_opens : (k : PExpr) →
    out-PForm (out-PExpr (expr_unplaced k)).form ≡ expr_layer (out-PForm (out-PExpr k).form)
expr_opens k =
    ap (λ x. out-PForm (out-PExpr x).form) (fold_out-PExpr PForm PExpr roll-PForm expr_moved k)
    ∙ ap (λ x. out-PForm x.form)
    (out-roll-PExpr (record { form = expr_form (out-PExpr k).form; spot = first_spot }))
    ∙ ap out-PForm (fold_out-PForm PForm PExpr roll-PForm expr_moved (out-PExpr k).form)
    ∙ out-roll-PForm _

tuple_cases : (z : O.PForm-F PForm PExpr) → expr_layer z ≡ O.Tuple [] → z ≡ O.Tuple []
tuple_cases (O.Tuple parts) e =
    let none : map expr_unplaced parts ≡ [] = cc in
    ap (λ ps. O.Tuple ps) (map_nil expr_unplaced parts none)
tuple_cases (O.List parts) e = let never : ⊥ = cc in absurd never
tuple_cases (O.Int n) e = let never : ⊥ = cc in absurd never
tuple_cases (O.Text s) e = let never : ⊥ = cc in absurd never
tuple_cases (O.Name s) e = let never : ⊥ = cc in absurd never
tuple_cases O.This e = let never : ⊥ = cc in absurd never
tuple_cases O.Step e = let never : ⊥ = cc in absurd never
tuple_cases (O.Cons parts tail) e = let never : ⊥ = cc in absurd never
tuple_cases (O.Neg part) e = let never : ⊥ = cc in absurd never
tuple_cases (O.Op kind a b) e = let never : ⊥ = cc in absurd never

abbrev IsListOf : List PExpr → O.PForm-F PForm PExpr → Type 0
IsListOf parts z =
    (es : List PExpr) × (z ≡ O.List es) × (map expr_unplaced es ≡ map expr_unplaced parts)

list_cases : (parts : List PExpr) (z : O.PForm-F PForm PExpr) →
    expr_layer z ≡ O.List (map expr_unplaced parts) → IsListOf parts z
list_cases parts (O.List es) e =
    let same : map expr_unplaced es ≡ map expr_unplaced parts = cc in
    (es, refl, same)
list_cases parts (O.Tuple es) e = let never : ⊥ = cc in absurd never
list_cases parts (O.Int n) e = let never : ⊥ = cc in absurd never
list_cases parts (O.Text s) e = let never : ⊥ = cc in absurd never
list_cases parts (O.Name s) e = let never : ⊥ = cc in absurd never
list_cases parts O.This e = let never : ⊥ = cc in absurd never
list_cases parts O.Step e = let never : ⊥ = cc in absurd never
list_cases parts (O.Cons es tail) e = let never : ⊥ = cc in absurd never
list_cases parts (O.Neg part) e = let never : ⊥ = cc in absurd never
list_cases parts (O.Op kind a b) e = let never : ⊥ = cc in absurd never

expr_back : (k : PExpr) → expr_unplaced k ≡ expr_unplaced black_expr → IsTokenExpr k
expr_back k e =
    let opened : out-PForm (out-PExpr black_expr).form ≡ O.Tuple [] =
    ap (λ x. out-PForm x.form) (out-roll-PExpr (record { form = F.Tuple []; spot = first }))
    ∙ F.outs-Tuple [] in
    let layer = sym (expr_opens k) ∙ ap (λ x. out-PForm (out-PExpr x).form) e
    ∙ expr_opens black_expr ∙ ap expr_layer opened in
    let is = tuple_cases (out-PForm (out-PExpr k).form) layer in
    let form : (out-PExpr k).form ≡ F.Tuple [] =
    sym (roll-out-PForm (out-PExpr k).form) ∙ ap roll-PForm is ∙ F.rolls-Tuple [] in
    ((out-PExpr k).spot, sym (roll-out-PExpr k) ∙ ap (at_spot (out-PExpr k).spot) form)

list_back : (n : ℕ) (k : PExpr) → expr_unplaced k ≡ expr_unplaced (black_list n) →
    IsWeight true n k
list_back n k e =
    let parts = replicate n black_expr in
    let opened : out-PForm (out-PExpr (black_list n)).form ≡ O.List parts =
    ap (λ x. out-PForm x.form) (out-roll-PExpr (record { form = F.List parts; spot = first }))
    ∙ F.outs-List parts in
    let layer = sym (expr_opens k) ∙ ap (λ x. out-PForm (out-PExpr x).form) e
    ∙ expr_opens (black_list n) ∙ ap expr_layer opened in
    let is = list_cases parts (out-PForm (out-PExpr k).form) layer in
    let form : (out-PExpr k).form ≡ F.List is.0 =
    sym (roll-out-PForm (out-PExpr k).form) ∙ ap roll-PForm is.1 ∙ F.rolls-List is.0 in
    let each = each_back IsTokenExpr expr_unplaced black_expr expr_back n is.0 is.2 in (
      (out-PExpr k).spot,
      is.0,
      sym (roll-out-PExpr k) ∙ ap (at_spot (out-PExpr k).spot) form,
      each.0,
      each.1,
    )

-- places
none_back : (max : Option PMax) → option_map max_unplaced max ≡ None → max ≡ None
none_back None same = refl
none_back (Some max) same = absurd (let no : ⊥ = cc in no)

place_back : (wp : WPlace) (p : PPlace) → place_unplaced p ≡ place_unplaced (plain_place wp) →
    IsPlaceForm wp p
place_back wp p e =
    let tokens = each_back IsToken constant_unplaced black_token token_back wp.initial p.initial
    (ap (λ x. x.initial) e) in
    record {
      name = ap (λ x. x.name.text) e;
      spot = (out-PKind p.kind).spot;
      kind = kind_back p.kind (ap (λ x. x.kind) e);
      tokens = tokens.0;
      many = tokens.1;
      max = none_back p.max (ap (λ x. x.max) e);
    }

-- arcs
abbrev IsFormed : ArcKind → List ℕ → PExpr → PInscribed → Type 0
IsFormed kind name expr form =
    (place : PName) × (e : PExpr) × (form ≡ I.Arc kind place (Some e)) × (place.text ≡ name)
    × (expr_unplaced e ≡ expr_unplaced expr)

formed_back : (kind : ArcKind) (name : List ℕ) (expr : PExpr) (form : PInscribed) →
    inscribed_unplaced form ≡ I.Arc kind (name_at first_spot name) (Some (expr_unplaced expr)) →
    IsFormed kind name expr form
formed_back kind name expr (I.Arc k place (Some e)) same =
    let kinds : k ≡ kind = cc in
    let places : name_unplaced place ≡ name_at first_spot name = cc in
    let exprs : expr_unplaced e ≡ expr_unplaced expr = cc in
    (place, e, ap (λ x. I.Arc x place (Some e)) kinds, ap (λ x. x.text) places, exprs)
formed_back kind name expr (I.Arc k place None) same = let never : ⊥ = cc in absurd never
formed_back kind name expr (I.Guard c) same = let never : ⊥ = cc in absurd never
formed_back kind name expr (I.Print e) same = let never : ⊥ = cc in absurd never
formed_back kind name expr (I.Set x e) same = let never : ⊥ = cc in absurd never
formed_back kind name expr (I.Uplink c es) same = let never : ⊥ = cc in absurd never
formed_back kind name expr (I.New x n) same = let never : ⊥ = cc in absurd never
formed_back kind name expr (I.Downlink t c es) same = let never : ⊥ = cc in absurd never
formed_back kind name expr (I.Equality a b) same = let never : ⊥ = cc in absurd never

weight_back : (wps : List WPlace) (a : WArc) (form : PInscribed) (more : Bool) →
    inscribed_unplaced form
    ≡ inscribed_unplaced
    (cond more
    (I.Arc (flexible a.kind) (named (place_name wps a.place)) (Some (black_list a.weight)))
    (I.Arc a.kind (named (place_name wps a.place)) (Some black_expr))) →
    (place : PName) × (e : PExpr) × (form ≡ I.Arc (form_kind more a.kind) place (Some e))
    × (place.text ≡ place_name wps a.place) × IsWeight more a.weight e
weight_back wps a form true same =
    let is = formed_back (flexible a.kind) (place_name wps a.place) (black_list a.weight) form same in
    (is.0, is.1, is.2, is.3, list_back a.weight is.1 is.4)
weight_back wps a form false same =
    let is = formed_back a.kind (place_name wps a.place) black_expr form same in
    (is.0, is.1, is.2, is.3, expr_back is.1 is.4)

arc_back : (wps : List WPlace) (a : WArc) (i : PInscription) →
    inscription_unplaced i ≡ inscription_unplaced (plain_arc wps a) → IsArcForm wps a i
arc_back wps a i e =
    let is = weight_back wps a i.form (nat_lt 1 a.weight) (ap (λ x. x.form) e) in
    record { place = is.0; expr = is.1; form = is.2; name = is.3; weight = is.4 }

transition_back : (wps : List WPlace) (wt : WTransition) (t : PTransition) →
    transition_unplaced t ≡ transition_unplaced (plain_transition wps wt) →
    IsTransitionForm wps wt t
transition_back wps wt t e = record {
  name = ap (λ x. x.name.text) e;
  arcs = zip_back (IsArcForm wps) inscription_unplaced (plain_arc wps) (arc_back wps) wt.arcs
      t.inscriptions (ap (λ x. x.inscriptions) e);
}

net_back : (net : Weighted) (main : PNet) → net_unplaced main ≡ net_unplaced (plain_net net) →
    IsNetForm net main
net_back net main e = record {
  name = ap (λ x. x.name.text) e;
  vars = map_nil var_unplaced main.vars (ap (λ x. x.vars) e);
  places = zip_back IsPlaceForm place_unplaced plain_place place_back net.places main.places
      (ap (λ x. x.places) e);
  transitions = zip_back (IsTransitionForm net.places) transition_unplaced
      (plain_transition net.places) (transition_back net.places) net.transitions main.transitions
      (ap (λ x. x.transitions) e);
}

one_back : (nets : List PNet) (net : PNet) → map net_unplaced nets ≡ net_unplaced net ∷ [] →
    (main : PNet) × (nets ≡ main ∷ []) × (net_unplaced main ≡ net_unplaced net)
one_back [] net e = let never : ⊥ = cc in absurd never
one_back (main ∷ nets) net e = (
  main,
  ap (λ others. main ∷ others)
      (map_nil net_unplaced nets (tails (net_unplaced main) (net_unplaced net) (map net_unplaced nets) [] e)),
  heads (net_unplaced main) (net_unplaced net) (map net_unplaced nets) [] e,
)

pub form_back : (net : Weighted) (plain : Plain) → SameButSpots plain (translated net) →
    IsForm net plain
form_back net plain same =
    let one = one_back plain.nets (plain_net net) (ap (λ x. x.nets) same) in
    record {
      main = one.0;
      channels = map_nil channel_unplaced plain.channels (ap (λ x. x.channels) same);
      nets = one.1;
      stands = net_back net one.0 one.2;
    }
