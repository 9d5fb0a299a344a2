-- A plain form that stands for a weighted net means the system of that net.
use Rattle.std.proofs.Common.{◌≡◌, ℕ, zero, suc, ◌+◌, ◌<◌, Bool, true, false, List, [], ◌∷◌, ◌++◌, map, length, refl, sym, ap, ◌∙◌, arith}
use Rattle.std.specs.Prelude.{◌≢◌, Option, Some, All, AllPairs, codes, nat_lt, replicate, flat_map, slice_get, unwrap_or}
use Rattle.std.specs.List.{AllZip}
use Rattle.std.specs.Option.{option_map_or}
use Rattle.std.proofs.lemmas.List.Elements.{All-head, All-tail}
use Rattle.rn_items.proofs.Numbers.{same_numbers, numbers_themselves}
use Rattle.rn_items.proofs.Lists.{pairs_head, pairs_tail}
use Rattle.rn_notation.specs.declared.token.Spot.{Spot}
use Rattle.rn_value.specs.declared.value.Kind.{Kind}
use Rattle.rn_value.specs.declared.value.Kind.TheVariants as Kind
use Rattle.rn_value.specs.declared.value.Value.{Value}
use Rattle.rn_model.specs.declared.expr.Expr.{Expr}
use Rattle.rn_model.specs.declared.expr.Expr.TheVariants as Expr
use Rattle.rn_model.specs.declared.system.ArcKind.{ArcKind}
use Rattle.rn_model.specs.declared.system.NetArc.{NetArc}
use Rattle.rn_model.specs.declared.system.Place.{Place}
use Rattle.rn_model.proofs.EachElement.{at_place}
use Rattle.rn_inscript.specs.declared.exprs.PExpr.{PExpr, fold-roll-PExpr}
use Rattle.rn_inscript.specs.declared.exprs.PForm.{fold_out-PForm}
use Rattle.rn_inscript.specs.declared.exprs.PForm.TheVariants as F
use Rattle.rn_inscript.specs.declared.inscriptions.PName.{PName}
use Rattle.rn_inscript.specs.declared.inscriptions.PInscribed.{PInscribed}
use Rattle.rn_inscript.specs.declared.inscriptions.PInscribed.TheVariants as I
use Rattle.rn_inscript.specs.declared.inscriptions.PInscription.{PInscription}
use Rattle.rn_inscript.specs.Expressions.{at_spot}
use Rattle.rn_net.specs.declared.kinds.PKind.{fold-roll-PKind}
use Rattle.rn_net.specs.declared.kinds.PKindForm.{fold_out-PKindForm}
use Rattle.rn_net.specs.declared.kinds.PKindForm.TheVariants as K
use Rattle.rn_net.specs.declared.constants.PConst.{PConst, fold-roll-PConst}
use Rattle.rn_net.specs.declared.constants.PConstForm.{fold_out-PConstForm}
use Rattle.rn_net.specs.declared.constants.PConstForm.TheVariants as C
use Rattle.rn_net.specs.declared.plain.Plain.{Plain}
use Rattle.rn_net.specs.declared.plain.PNet.{PNet}
use Rattle.rn_net.specs.declared.plain.PPlace.{PPlace}
use Rattle.rn_net.specs.declared.plain.PMax.{PMax}
use Rattle.rn_net.specs.declared.plain.PTransition.{PTransition}
use Rattle.rn_net.specs.Kinds.{kind_at}
use Rattle.rn_net.specs.Constants.{constant_at}
use Rattle.rn_declared.specs.Names.{same_name, number_from, number_among}
use Rattle.rn_numbered.specs.Numbered.{Numbers, kind_of, kind_of_form, value_of, value_of_form, capacity_of, expr_of, expr_of_form, inscribed, equality_of, guard_of, action_of, creation_of, uplink_of, downlink_of, arc_of}
use Rattle.rn_occurring.specs.TransitionVars.{with_vars}
use Rattle.rn_numbering.specs.Numbering.{numbers_of, transition_of, numbered_net_of, system_of}
use Rattle.rn_weighted.specs.declared.weighted.Weighted.{Weighted}
use Rattle.rn_weighted.specs.declared.weighted.WPlace.{WPlace}
use Rattle.rn_weighted.specs.declared.weighted.WTransition.{WTransition}
use Rattle.rn_weighted.specs.declared.weighted.WArc.{WArc}
use Rattle.rn_weighted.specs.Weighted.{IsWeighted, IsWArc, IsWTransition}
use Rattle.rn_translated.specs.TranslatedSystem.{black, blacks, flexible, net_arc, net_place, net_transition, translated_net, translated_system}
use Rattle.rn_translated.specs.Translation.{place_name}
use Rattle.rn_translated.proofs.ArcDemands.{token, formed}
use Rattle.rn_translated.proofs.FormsOfNets.{IsToken, IsTokenExpr, IsPlaceForm, IsWeight, form_kind, IsArcForm, IsTransitionForm, IsNetForm, IsForm}

-- kinds, tokens and expressions
kind_means : (s : Spot) → kind_of (kind_at s (K.Tuple [])) ≡ Kind.Tuple []
kind_means s =
    fold-roll-PKind Kind Kind kind_of_form (λ kind. kind.form)
    (record { form = K.Tuple []; spot = s })
    ∙ fold_out-PKindForm Kind Kind kind_of_form (λ kind. kind.form) (K.Tuple [])
    ∙ rw (K.outs-Tuple []) refl

token_means : (s : Spot) → value_of (constant_at s (C.Tuple [])) ≡ black
token_means s =
    fold-roll-PConst Value Value value_of_form (λ const. const.form)
    (record { form = C.Tuple []; spot = s })
    ∙ fold_out-PConstForm Value Value value_of_form (λ const. const.form) (C.Tuple [])
    ∙ rw (C.outs-Tuple []) refl

abbrev Read : Type 0
Read = (List ℕ → ℕ) → Expr

expr_means : (s : Spot) (var : List ℕ → ℕ) → expr_of (at_spot s (F.Tuple [])) var ≡ token
expr_means s var =
    ap (λ f. f var)
    (fold-roll-PExpr Read Read expr_of_form (λ e. e.form) (record { form = F.Tuple []; spot = s })
    ∙ fold_out-PForm Read Read expr_of_form (λ e. e.form) (F.Tuple []))
    ∙ rw (F.outs-Tuple []) refl

exprs_mean : (es : List PExpr) (var : List ℕ → ℕ) → All IsTokenExpr es →
    map (λ part. part var) (map expr_of es) ≡ replicate (length es) token
exprs_mean [] var are = refl
exprs_mean (e ∷ es) var are =
    let is = All-head IsTokenExpr e es are in
    ap (λ x. x ∷ map (λ part. part var) (map expr_of es))
    (ap (λ f. expr_of f var) is.1 ∙ expr_means is.0 var)
    ∙ ap (λ xs. token ∷ xs) (exprs_mean es var (All-tail IsTokenExpr e es are))

list_means : (s : Spot) (es : List PExpr) (var : List ℕ → ℕ) → All IsTokenExpr es →
    expr_of (at_spot s (F.List es)) var ≡ Expr.List (replicate (length es) token)
list_means s es var are =
    ap (λ f. f var)
    (fold-roll-PExpr Read Read expr_of_form (λ e. e.form) (record { form = F.List es; spot = s })
    ∙ fold_out-PForm Read Read expr_of_form (λ e. e.form) (F.List es))
    ∙ rw (F.outs-List es) (ap Expr.List (exprs_mean es var are))

tokens_mean : (tokens : List PConst) → All IsToken tokens →
    map value_of tokens ≡ blacks (length tokens)
tokens_mean [] are = refl
tokens_mean (t ∷ ts) are =
    let is = All-head IsToken t ts are in
    ap (λ v. v ∷ map value_of ts) (ap value_of is.1 ∙ token_means is.0)
    ∙ ap (λ vs. black ∷ vs) (tokens_mean ts (All-tail IsToken t ts are))

-- places
abbrev read_place : PPlace → Place
read_place p = record {
  name = p.name.text;
  kind = kind_of p.kind;
  initial = map value_of p.initial;
  max = capacity_of p.max;
}

place_means : (wp : WPlace) (p : PPlace) → IsPlaceForm wp p → read_place p ≡ net_place wp
place_means wp p is =
    let made : List ℕ → Kind → List Value → Option PMax → Place = λ name kind initial max. record {
      name = name;
      kind = kind;
      initial = initial;
      max = capacity_of max;
    } in
    ap (λ name. made name (kind_of p.kind) (map value_of p.initial) p.max) is.name
    ∙ ap (λ kind. made wp.name kind (map value_of p.initial) p.max)
    (ap kind_of is.kind ∙ kind_means is.spot)
    ∙ ap (λ initial. made wp.name (Kind.Tuple []) initial p.max)
    (tokens_mean p.initial is.tokens ∙ ap blacks is.many)
    ∙ ap (made wp.name (Kind.Tuple []) (blacks wp.initial)) is.max

places_mean : (wps : List WPlace) (ps : List PPlace) → AllZip IsPlaceForm wps ps →
    map read_place ps ≡ map net_place wps
places_mean [] [] are = refl
places_mean (wp ∷ wps) (p ∷ ps) are =
    ap (λ x. x ∷ map read_place ps) (place_means wp p are.0)
    ∙ ap (λ xs. net_place wp ∷ xs) (places_mean wps ps are.1)
places_mean [] (p ∷ ps) are = absurd are
places_mean (wp ∷ wps) [] are = absurd are

pub names_are : (wps : List WPlace) (ps : List PPlace) → AllZip IsPlaceForm wps ps →
    map (λ p. p.name.text) ps ≡ map (λ wp. wp.name) wps
names_are [] [] are = refl
names_are (wp ∷ wps) (p ∷ ps) are =
    ap (λ x. x ∷ map (λ p. p.name.text) ps) are.0.name
    ∙ ap (λ xs. wp.name ∷ xs) (names_are wps ps are.1)
names_are [] (p ∷ ps) are = absurd are
names_are (wp ∷ wps) [] are = absurd are

-- numbers of places by their names
pub differ : (x y : List ℕ) → x ≢ y → same_name x y ≡ false
differ x y apart = by (same_name x y) refl
  where
    by : (same : Bool) → same_name x y ≡ same → same ≡ false
    by false e = refl
    by true e = absurd (apart (same_numbers x y e))

numbered : (n : ℕ) (wps : List WPlace) (k : ℕ) (wp : WPlace) →
    AllPairs (λ p q. p.name ≢ q.name) wps → slice_get wps k ≡ Some wp →
    number_from n (map (λ p. p.name) wps) wp.name ≡ Some (n + k)
numbered n [] k wp apart at = let never : ⊥ = cc in absurd never
numbered n (p ∷ wps) zero wp apart at =
    let same : p ≡ wp = cc in
    let here : same_name p.name wp.name ≡ true =
    ap (λ q. same_name q.name wp.name) same ∙ numbers_themselves wp.name in
    let all : n ≡ n + 0 = omega arith in
    rw here (ap Some all)
numbered n (p ∷ wps) (suc k) wp apart at =
    let R = λ (p q : WPlace). p.name ≢ q.name in
    let other : same_name p.name wp.name ≡ false =
    differ p.name wp.name
    (at_place (λ q. p.name ≢ q.name) wps k wp (pairs_head R p wps apart) at) in
    let next : (n + 1) + k ≡ n + suc k = omega arith in
    rw other (numbered (n + 1) wps k wp (pairs_tail R p wps apart) at ∙ ap Some next)

pub name_of : (wps : List WPlace) (k : ℕ) (wp : WPlace) → slice_get wps k ≡ Some wp →
    place_name wps k ≡ wp.name
name_of wps k wp at = ap (λ o. option_map_or (λ place. place.name) o []) at

pub some_place : (wps : List WPlace) (k : ℕ) → k < length wps →
    (wp : WPlace) × (slice_get wps k ≡ Some wp)
some_place [] k within = absurd (let never : ⊥ = omega (arith, within) in never)
some_place (wp ∷ wps) zero within = (wp, refl)
some_place (wp ∷ wps) (suc k) within = some_place wps k (omega (arith, within))

pub place_found : (wps : List WPlace) (k : ℕ) → AllPairs (λ p q. p.name ≢ q.name) wps →
    k < length wps → number_among (map (λ p. p.name) wps) (place_name wps k) ≡ Some k
place_found wps k apart within =
    let at = some_place wps k within in
    let same : 0 + k ≡ k = omega arith in
    ap (number_among (map (λ p. p.name) wps)) (name_of wps k at.0 at.1)
    ∙ numbered 0 wps k at.0 apart at.1 ∙ ap Some same

-- transitions
module _ (to : Numbers) (wps : List WPlace)
    (numbers : (k : ℕ) → k < length wps → to.place (place_name wps k) ≡ k) where
  nothing_of : {A : Type 0} (pick : PInscribed → List A) →
      ((kind : ArcKind) (place : PName) (e : Option PExpr) → pick (I.Arc kind place e) ≡ []) →
      (arcs : List WArc) (is : List PInscription) → AllZip (IsArcForm wps) arcs is →
      flat_map pick (map (λ i. i.form) is) ≡ []
  nothing_of pick none [] [] are = refl
  nothing_of pick none (a ∷ arcs) (i ∷ is) are =
      ap (λ form. pick form ++ flat_map pick (map (λ i. i.form) is)) are.0.form
      ∙ ap (λ xs. xs ++ flat_map pick (map (λ i. i.form) is))
      (none (form_kind (nat_lt 1 a.weight) a.kind) are.0.place (Some are.0.expr))
      ∙ nothing_of pick none arcs is are.1
  nothing_of pick none [] (i ∷ is) are = absurd are
  nothing_of pick none (a ∷ arcs) [] are = absurd are

  arc_reads : (a : WArc) (more : Bool) (place : ℕ) (e : PExpr) → place ≡ a.place →
      IsWeight more a.weight e →
      ◌≡◌ {A = NetArc}
      (record { kind = form_kind more a.kind; place = place; inscription = expr_of e to.var })
      (formed a more)
  arc_reads a true place e same (s, es, is, are, many) =
      ap
      (λ p. record { kind = flexible a.kind; place = p; inscription = expr_of e to.var }) same
      ∙ ap (λ x. record { kind = flexible a.kind; place = a.place; inscription = x })
      (ap (λ f. expr_of f to.var) is ∙ list_means s es to.var are
      ∙ ap (λ n. Expr.List (replicate n token)) many)
  arc_reads a false place e same (s, is) =
      ap (λ p. record { kind = a.kind; place = p; inscription = expr_of e to.var }) same
      ∙ ap (λ x. record { kind = a.kind; place = a.place; inscription = x })
      (ap (λ f. expr_of f to.var) is ∙ expr_means s to.var)

  arcs_mean : (arcs : List WArc) (is : List PInscription) → All (IsWArc (length wps)) arcs →
      AllZip (IsArcForm wps) arcs is →
      flat_map (arc_of to) (map (λ i. i.form) is) ≡ map net_arc arcs
  arcs_mean [] [] good are = refl
  arcs_mean (a ∷ arcs) (i ∷ is) good are =
      let is_arc = All-head (IsWArc (length wps)) a arcs good in
      let number = ap to.place are.0.name ∙ numbers a.place is_arc.place in
      ap (λ form. arc_of to form ++ flat_map (arc_of to) (map (λ i. i.form) is)) are.0.form
      ∙ ap (λ x. x ∷ flat_map (arc_of to) (map (λ i. i.form) is))
      (arc_reads a (nat_lt 1 a.weight) (to.place are.0.place.text) are.0.expr number are.0.weight)
      ∙ ap (λ xs. net_arc a ∷ xs)
      (arcs_mean arcs is (All-tail (IsWArc (length wps)) a arcs good) are.1)
  arcs_mean [] (i ∷ is) good are = absurd are
  arcs_mean (a ∷ arcs) [] good are = absurd are

  transition_means : (wt : WTransition) (t : PTransition) → IsWTransition (length wps) wt →
      IsTransitionForm wps wt t →
      with_vars 0 (inscribed to t.name.text (map (λ i. i.form) t.inscriptions))
      ≡ net_transition wt
  transition_means wt t good is =
      rw (
        is.name,
        nothing_of (equality_of to) (λ kind place e. refl) wt.arcs t.inscriptions is.arcs,
        nothing_of (guard_of to) (λ kind place e. refl) wt.arcs t.inscriptions is.arcs,
        nothing_of (action_of to) (λ kind place e. refl) wt.arcs t.inscriptions is.arcs,
        nothing_of (creation_of to) (λ kind place e. refl) wt.arcs t.inscriptions is.arcs,
        nothing_of (uplink_of to) (λ kind place e. refl) wt.arcs t.inscriptions is.arcs,
        nothing_of (downlink_of to) (λ kind place e. refl) wt.arcs t.inscriptions is.arcs,
        arcs_mean wt.arcs t.inscriptions good.arcs is.arcs,
      ) refl

  transitions_mean : (wts : List WTransition) (ts : List PTransition) →
      All (IsWTransition (length wps)) wts → AllZip (IsTransitionForm wps) wts ts →
      map
      (λ t. with_vars 0 (inscribed to t.name.text (map (λ i. i.form) t.inscriptions))) ts
      ≡ map net_transition wts
  transitions_mean [] [] good are = refl
  transitions_mean (wt ∷ wts) (t ∷ ts) good are =
      ap
      (λ x. x
      ∷ map (λ t. with_vars 0 (inscribed to t.name.text (map (λ i. i.form) t.inscriptions))) ts)
      (transition_means wt t (All-head (IsWTransition (length wps)) wt wts good) are.0)
      ∙ ap (λ xs. net_transition wt ∷ xs)
      (transitions_mean wts ts (All-tail (IsWTransition (length wps)) wt wts good) are.1)
  transitions_mean [] (t ∷ ts) good are = absurd are
  transitions_mean (wt ∷ wts) [] good are = absurd are

net_means : (net : Weighted) (plain : Plain) (main : PNet) → IsWeighted net →
    IsNetForm net main → numbered_net_of plain main ≡ translated_net net
net_means net plain main good is =
    let to = numbers_of plain main in
    let names = names_are net.places main.places is.places in
    let numbers : (k : ℕ) → k < length net.places → to.place (place_name net.places k) ≡ k =
    λ k within.
    ap (λ texts. unwrap_or (number_among texts (place_name net.places k)) 0) names
    ∙ ap (λ o. unwrap_or o 0) (place_found net.places k good.places_distinct within) in
    let count : length main.vars ≡ 0 = ap length is.vars in
    let transitions : map (transition_of plain main) main.transitions
    ≡ map net_transition net.transitions =
    ap
    (λ n. map
    (λ t. with_vars n (inscribed to t.name.text (map (λ i. i.form) t.inscriptions)))
    main.transitions) count
    ∙ transitions_mean to net.places numbers net.transitions main.transitions good.transitions
    is.transitions in
    ap
    (λ name. record {
      name = name;
      vars = map (λ v. record { name = v.name.text; kind = kind_of v.kind }) main.vars;
      places = map read_place main.places;
      transitions = map (transition_of plain main) main.transitions;
    }) is.name
    ∙ ap
    (λ vars. record {
      name = codes "main";
      vars = map (λ v. record { name = v.name.text; kind = kind_of v.kind }) vars;
      places = map read_place main.places;
      transitions = map (transition_of plain main) main.transitions;
    }) is.vars
    ∙ ap
    (λ places. record {
      name = codes "main";
      vars = [];
      places = places;
      transitions = map (transition_of plain main) main.transitions;
    }) (places_mean net.places main.places is.places)
    ∙ ap
    (λ transitions. record {
      name = codes "main";
      vars = [];
      places = map net_place net.places;
      transitions = transitions;
    }) transitions

-- the form means the system
pub means : (net : Weighted) (plain : Plain) → IsWeighted net → IsForm net plain →
    translated_system net ≡ system_of plain
means net plain good is =
    sym
    (ap
    (λ nets. record {
      nets = map (numbered_net_of plain) nets;
      channels = map (λ c. record { name = c.name.text; kinds = map kind_of c.kinds }) plain.channels;
    }) is.nets
    ∙ ap
    (λ channels. record {
      nets = numbered_net_of plain is.main ∷ [];
      channels = map (λ c. record { name = c.name.text; kinds = map kind_of c.kinds }) channels;
    }) is.channels
    ∙ ap (λ main. record { nets = main ∷ []; channels = [] })
    (net_means net plain is.main good is.stands))
