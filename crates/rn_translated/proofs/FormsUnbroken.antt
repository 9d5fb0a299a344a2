-- In a plain form that stands for a weighted net no rule is broken.
use Rattle.std.proofs.Common.{◌≡◌, ℕ, zero, suc, ◌<◌, ◌≤◌, Bool, true, false, not, ◌||◌, List, [], ◌∷◌, ◌++◌, map, length, refl, ap, ◌∙◌, arith}
use Rattle.std.specs.Prelude.{◌≢◌, ◌&&◌, Option, Some, None, All, codes, nat_lt, flat_map, slice_get, is_some, unwrap_or}
use Rattle.std.specs.List.{AllZip, list_any}
use Rattle.std.specs.Option.{option_and_then}
use Rattle.std.proofs.lemmas.List.{length-map}
use Rattle.std.proofs.lemmas.List.Elements.{All-nil, All-cons, All-head, All-tail, All-map, All-weaker}
use Rattle.rn_notation.specs.declared.token.Spot.{Spot}
use Rattle.rn_model.specs.Limits.{most_nets, most_channels, most_vars, most_places, most_transitions, most_initial, most_inscriptions, longest_name}
use Rattle.rn_model.specs.declared.system.ArcKind.{ArcKind}
use Rattle.rn_model.specs.declared.system.ArcKind.TheVariants.{Inhibit}
use Rattle.rn_inscript.specs.declared.exprs.PExpr.{PExpr}
use Rattle.rn_inscript.specs.declared.exprs.PForm.{PForm, fold-PForm, map-PForm, out-PForm, fold_out-PForm}
use Rattle.rn_inscript.specs.declared.exprs.PForm.TheVariants as F
use Rattle.rn_inscript.specs.declared.inscriptions.PName.{PName}
use Rattle.rn_inscript.specs.declared.inscriptions.PInscription.{PInscription}
use Rattle.rn_inscript.specs.Expressions.{at_spot}
use Rattle.rn_net.specs.declared.kinds.PKind.{fold-roll-PKind}
use Rattle.rn_net.specs.declared.kinds.PKindForm.{fold_out-PKindForm}
use Rattle.rn_net.specs.declared.kinds.PKindForm.TheVariants as K
use Rattle.rn_net.specs.declared.constants.PConst.{PConst, fold-roll-PConst}
use Rattle.rn_net.specs.declared.constants.PConstForm.{fold_out-PConstForm}
use Rattle.rn_net.specs.declared.constants.PConstForm.TheVariants as C
use Rattle.rn_net.specs.declared.constants.PConstForm.TheOpen as Open
use Rattle.rn_net.specs.declared.plain.Plain.{Plain}
use Rattle.rn_net.specs.declared.plain.PNet.{PNet}
use Rattle.rn_net.specs.declared.plain.PPlace.{PPlace}
use Rattle.rn_net.specs.declared.plain.PTransition.{PTransition}
use Rattle.rn_net.specs.Kinds.{kind_at}
use Rattle.rn_net.specs.Constants.{constant_at}
use Rattle.rn_declared.specs.declared.fault.Rule.TheVariants as Rule
use Rattle.rn_declared.specs.declared.fault.Fault.{Fault}
use Rattle.rn_declared.specs.declared.pattern.Pattern.{Pattern, out-Pattern}
use Rattle.rn_declared.specs.declared.pattern.Pattern.TheVariants as Pattern
use Rattle.rn_declared.specs.Faults.{broken_if, past_limit}
use Rattle.rn_declared.specs.Names.{same_name, declared_faults, number_among}
use Rattle.rn_declared.specs.Patterns.{pattern_of, pattern_step, share}
use Rattle.rn_declared.specs.Declarations.{Part, kind_part, kind_faults, kind_form_faults, const_part, const_form_faults, fits, fits_form, token_faults, capacity_faults, place_faults}
use Rattle.rn_declared.proofs.PatternKinds.{share-out}
use Rattle.rn_declared.proofs.CommonPatterns.{any_both, both_self}
use Rattle.rn_declared.specs.Channels.{channels_faults}
use Rattle.rn_items.proofs.Numbers.{numbers_themselves}
use Rattle.rn_rules.specs.Expressions.{Where, seen_of, seen_form, whole, with_element, with_elements, listed, tuple_of}
use Rattle.rn_rules.specs.Arcs.{arc_faults, asked_of, is_clear, inscribed_faults}
use Rattle.rn_rules.specs.Counted.{holds_name, is_flex_output, counted_faults}
use Rattle.rn_rules.specs.Transitions.{Scope, Progress, inscription_faults, inscriptions_faults, after, at_first, transition_faults}
use Rattle.rn_rules.specs.Systems.{scope_of, net_faults, system_faults, text_start}
use Rattle.rn_check.proofs.ExpressionKinds.{Forms, Parts, seen-at}
use Rattle.rn_weighted.specs.declared.weighted.Weighted.{Weighted}
use Rattle.rn_weighted.specs.declared.weighted.WPlace.{WPlace}
use Rattle.rn_weighted.specs.declared.weighted.WTransition.{WTransition}
use Rattle.rn_weighted.specs.declared.weighted.WArc.{WArc}
use Rattle.rn_weighted.specs.Weighted.{IsWeighted, IsWArc, IsWPlace, IsWTransition}
use Rattle.rn_translated.specs.TranslatedSystem.{flexible}
use Rattle.rn_translated.specs.Translation.{place_name}
use Rattle.rn_translated.proofs.ArcDemands.{by_kind, above_one}
use Rattle.rn_translated.proofs.FormsOfNets.{IsToken, IsTokenExpr, IsPlaceForm, IsWeight, form_kind, IsArcForm, IsTransitionForm, IsNetForm, IsForm}
use Rattle.rn_translated.proofs.FormsMean.{names_are, place_found}
use Rattle.rn_translated.proofs.NamesDeclared.{none_both, same_length, within_limit, declared_fine, pairs_map}

-- kinds and tokens
abbrev tuple : Pattern
tuple = Pattern.Tuple []

abbrev sound : Spot → Part
sound s = record { spot = s; faults = [] }

kind_sound : (s : Spot) → kind_part (kind_at s (K.Tuple [])) ≡ sound s
kind_sound s =
    fold-roll-PKind (List Fault) Part kind_form_faults
    (λ kind. record { spot = kind.spot; faults = kind.form })
    (record { form = K.Tuple []; spot = s })
    ∙ ap (λ faults. record { spot = s; faults = faults })
    (fold_out-PKindForm (List Fault) Part kind_form_faults
    (λ kind. record { spot = kind.spot; faults = kind.form }) (K.Tuple [])
    ∙ rw (K.outs-Tuple []) refl)

pattern_is : (s : Spot) → pattern_of (kind_at s (K.Tuple [])) ≡ tuple
pattern_is s =
    fold-roll-PKind Pattern Pattern pattern_step (λ kind. kind.form)
    (record { form = K.Tuple []; spot = s })
    ∙ fold_out-PKindForm Pattern Pattern pattern_step (λ kind. kind.form) (K.Tuple [])
    ∙ rw (K.outs-Tuple []) refl

token_sound : (s : Spot) → const_part (constant_at s (C.Tuple [])) ≡ sound s
token_sound s =
    fold-roll-PConst (List Fault) Part const_form_faults
    (λ const. record { spot = const.spot; faults = const.form })
    (record { form = C.Tuple []; spot = s })
    ∙ ap (λ faults. record { spot = s; faults = faults })
    (fold_out-PConstForm (List Fault) Part const_form_faults
    (λ const. record { spot = const.spot; faults = const.form }) (C.Tuple [])
    ∙ rw (C.outs-Tuple []) refl)

abbrev Test : Type 0
Test = Pattern → Bool

abbrev fits_step : Open.PConstForm-F Test Test → Test
fits_step form pattern = fits_form form (out-Pattern pattern)

token_fits : (s : Spot) → fits (constant_at s (C.Tuple [])) tuple ≡ true
token_fits s =
    ap (λ f. f tuple)
    (fold-roll-PConst Test Test fits_step (λ const. const.form)
    (record { form = C.Tuple []; spot = s }))
    ∙ ap (λ f. f tuple) (fold_out-PConstForm Test Test fits_step (λ const. const.form) (C.Tuple []))
    ∙ rw (C.outs-Tuple [], Pattern.outs-Tuple []) refl

token_fine : (token : PConst) → IsToken token → token_faults tuple token ≡ []
token_fine token (s, is) =
    none_both (const_part token).faults
    (broken_if (not (fits token tuple)) Rule.Kinds (const_part token).spot)
    (ap (λ t. (const_part t).faults) is ∙ ap (λ part. part.faults) (token_sound s))
    (ap (λ b. broken_if (not b) Rule.Kinds (const_part token).spot)
    (ap (λ t. fits t tuple) is ∙ token_fits s))

each_fine : {A B : Type 0} (P : A → Type 0) (f : A → List B) → ((x : A) → P x → f x ≡ []) →
    (xs : List A) → All P xs → flat_map f xs ≡ []
each_fine P f fine [] all = refl
each_fine P f fine (x ∷ xs) all =
    none_both (f x) (flat_map f xs) (fine x (All-head P x xs all))
    (each_fine P f fine xs (All-tail P x xs all))

place_fine : (wp : WPlace) (p : PPlace) → IsWPlace wp → IsPlaceForm wp p → place_faults p ≡ []
place_fine wp p good is =
    let count = length-map p.initial (λ token. (const_part token).spot) in
    let pattern : pattern_of p.kind ≡ tuple = ap pattern_of is.kind ∙ pattern_is is.spot in
    let tokens : flat_map (token_faults (pattern_of p.kind)) p.initial ≡ [] =
    ap (λ q. flat_map (token_faults q) p.initial) pattern
    ∙ each_fine IsToken (token_faults tuple) token_fine p.initial is.tokens in
    let spots = map (λ token. (const_part token).spot) p.initial in
    let tokens_faults = flat_map (token_faults (pattern_of p.kind)) p.initial in
    none_both (kind_faults p.kind ++ tokens_faults ++ past_limit most_initial spots)
    (capacity_faults p.max spots)
    (none_both (kind_faults p.kind ++ tokens_faults) (past_limit most_initial spots)
    (none_both (kind_faults p.kind) tokens_faults
    (ap kind_faults is.kind ∙ ap (λ part. part.faults) (kind_sound is.spot)) tokens)
    (within_limit most_initial spots (omega (arith, count, is.many, good.tokens))))
    (ap (λ max. capacity_faults max spots) is.max)

places_fine : (wps : List WPlace) (ps : List PPlace) → All IsWPlace wps →
    AllZip IsPlaceForm wps ps → flat_map place_faults ps ≡ []
places_fine [] [] good are = refl
places_fine (wp ∷ wps) (p ∷ ps) good are =
    none_both (place_faults p) (flat_map place_faults ps)
    (place_fine wp p (All-head IsWPlace wp wps good) are.0)
    (places_fine wps ps (All-tail IsWPlace wp wps good) are.1)
places_fine [] (p ∷ ps) good are = absurd are
places_fine (wp ∷ wps) [] good are = absurd are

patterns_are : (wps : List WPlace) (ps : List PPlace) (k : ℕ) → AllZip IsPlaceForm wps ps →
    k < length wps → slice_get (map (λ p. pattern_of p.kind) ps) k ≡ Some tuple
patterns_are [] ps k are within = absurd (let never : ⊥ = omega (arith, within) in never)
patterns_are (wp ∷ wps) [] k are within = absurd are
patterns_are (wp ∷ wps) (p ∷ ps) zero are within =
    ap Some (ap pattern_of are.0.kind ∙ pattern_is are.0.spot)
patterns_are (wp ∷ wps) (p ∷ ps) (suc k) are within =
    patterns_are wps ps k are.1 (omega (arith, within))

-- no place of these has a capacity
none_capped : (wps : List WPlace) (ps : List PPlace) → AllZip IsPlaceForm wps ps → (o : Option ℕ) →
    unwrap_or (option_and_then (slice_get (map (λ p. is_some p.max) ps)) o) false ≡ false
none_capped wps ps are None = refl
none_capped [] [] are (Some n) = refl
none_capped (wp ∷ wps) (p ∷ ps) are (Some zero) = ap is_some are.0.max
none_capped (wp ∷ wps) (p ∷ ps) are (Some (suc n)) = none_capped wps ps are.1 (Some n)
none_capped [] (p ∷ ps) are (Some n) = absurd are
none_capped (wp ∷ wps) [] are (Some n) = absurd are

counted_fine : (kind : ArcKind) (capped : Bool) (e : PExpr) (acts : List ℕ → Bool) →
    capped ≡ false → counted_faults kind capped (Some e) acts ≡ []
counted_fine kind capped e acts none = by (is_flex_output kind)
  where
    by : (b : Bool) → broken_if (b && capped && holds_name e acts) Rule.Counted e.spot ≡ []
    by true = rw none refl
    by false = refl

-- expressions
share_tuple : share tuple tuple ≡ true
share_tuple = share-out tuple tuple ∙ rw (Pattern.outs-Tuple []) refl

share_list : share (Pattern.List tuple) (Pattern.List tuple) ≡ true
share_list =
    share-out (Pattern.List tuple) (Pattern.List tuple) ∙ rw (Pattern.outs-List tuple) share_tuple

share_any : share Pattern.Any tuple ≡ true
share_any = share-out Pattern.Any tuple ∙ rw Pattern.outs-Any refl

abbrev form_seen : PForm → Forms
form_seen = fold-PForm Forms Parts seen_form (λ e. e.form e.spot)

form_out : (form : PForm) (s : Spot) (at : Where) →
    seen_of (at_spot s form) at
    ≡ seen_form (map-PForm PForm PExpr Forms Parts form_seen seen_of (out-PForm form)) s at
form_out form s at =
    ap (λ f. f at) (seen-at s form)
    ∙ ap (λ f. f s at) (fold_out-PForm Forms Parts seen_form (λ e. e.form e.spot) form)

seen_token : (s : Spot) (at : Where) → seen_of (at_spot s (F.Tuple [])) at ≡ whole s tuple
unfolding tuple_of
seen_token s at = form_out (F.Tuple []) s at ∙ rw (F.outs-Tuple []) refl

first_element : (s t : Spot) → with_element (whole s Pattern.Any) (whole t tuple) ≡ whole s tuple
unfolding with_element
first_element s t = rw (share_any, any_both tuple) refl

next_element : (s t : Spot) → with_element (whole s tuple) (whole t tuple) ≡ whole s tuple
unfolding with_element
next_element s t = rw (share_tuple, both_self tuple) refl

more_elements : (s : Spot) (es : List PExpr) (at : Where) → All IsTokenExpr es →
    with_elements (whole s tuple) (map (λ e. e at) (map seen_of es)) ≡ whole s tuple
unfolding with_elements
more_elements s [] at are = refl
more_elements s (e ∷ es) at are =
    let is = All-head IsTokenExpr e es are in
    let seen = ap (λ f. seen_of f at) is.1 ∙ seen_token is.0 at in
    ap (λ x. with_elements (with_element (whole s tuple) x) (map (λ e. e at) (map seen_of es))) seen
    ∙ ap (λ x. with_elements x (map (λ e. e at) (map seen_of es))) (next_element s is.0)
    ∙ more_elements s es at (All-tail IsTokenExpr e es are)

all_elements : (s : Spot) (es : List PExpr) (at : Where) → All IsTokenExpr es → 0 < length es →
    with_elements (whole s Pattern.Any) (map (λ e. e at) (map seen_of es)) ≡ whole s tuple
unfolding with_elements
all_elements s [] at are some = absurd (let never : ⊥ = omega (arith, some) in never)
all_elements s (e ∷ es) at are some =
    let is = All-head IsTokenExpr e es are in
    let seen = ap (λ f. seen_of f at) is.1 ∙ seen_token is.0 at in
    ap
    (λ x. with_elements (with_element (whole s Pattern.Any) x) (map (λ e. e at) (map seen_of es)))
    seen
    ∙ ap (λ x. with_elements x (map (λ e. e at) (map seen_of es))) (first_element s is.0)
    ∙ more_elements s es at (All-tail IsTokenExpr e es are)

list_of : (s : Spot) → listed (whole s tuple) ≡ whole s (Pattern.List tuple)
unfolding listed
list_of s = refl

seen_list : (s : Spot) (es : List PExpr) (at : Where) → All IsTokenExpr es → 0 < length es →
    seen_of (at_spot s (F.List es)) at ≡ whole s (Pattern.List tuple)
seen_list s es at are some =
    form_out (F.List es) s at
    ∙ rw (F.outs-List es) (ap listed (all_elements s es at are some) ∙ list_of s)

-- inscriptions
arc_fine : (kind : ArcKind) (place : Option Pattern) (name : PName) (e : PExpr) (at : Where)
    (p : Pattern) (s : Spot) → is_clear kind ≡ false → asked_of kind tuple ≡ p →
    place ≡ Some tuple → seen_of e at ≡ whole s p → share p p ≡ true →
    arc_faults kind place name (Some e) at ≡ []
unfolding inscribed_faults
arc_fine kind place name e at p s clear asked known seen shared =
    rw (known, seen, asked, shared, clear) refl

abbrev Asks : ArcKind → Pattern → Type 0
Asks kind p = (is_clear kind ≡ false) × (asked_of kind tuple ≡ p)

weight_fine : (a : WArc) (places : ℕ) (more : Bool) → IsWArc places a → nat_lt 1 a.weight ≡ more →
    (place : Option Pattern) (name : PName) (e : PExpr) (at : Where) → place ≡ Some tuple →
    IsWeight more a.weight e → arc_faults (form_kind more a.kind) place name (Some e) at ≡ []
weight_fine a places true is above place name e at known (s, es, form, are, many) =
    let asks =
    by_kind (λ kind. kind ≢ Inhibit → Asks (flexible kind) (Pattern.List tuple)) a.kind is.kind
    (λ other. (refl, refl)) (λ other. (refl, refl)) (λ other. absurd (other refl))
    (λ inhibit. above_one a.weight above (is.inhibits inhibit)) in
    arc_fine (flexible a.kind) place name e at (Pattern.List tuple) s asks.0 asks.1 known
    (ap (λ f. seen_of f at) form ∙ seen_list s es at are (omega (arith, many, is.some))) share_list
weight_fine a places false is above place name e at known (s, form) =
    let asks =
    by_kind (λ kind. Asks kind tuple) a.kind is.kind (refl, refl) (refl, refl) (refl, refl) in
    arc_fine a.kind place name e at tuple s asks.0 asks.1 known
    (ap (λ f. seen_of f at) form ∙ seen_token s at) share_tuple

module _ (scope : Scope) (wps : List WPlace)
    (known : (k : ℕ) → k < length wps →
    scope.pattern_of_place (place_name wps k) ≡ Some tuple)
    (uncapped : (name : List ℕ) → scope.has_capacity name ≡ false) where
  inscriptions_fine : (p : Progress) (arcs : List WArc) (is : List PInscription) →
      All (IsWArc (length wps)) arcs → AllZip (IsArcForm wps) arcs is →
      inscriptions_faults scope p is ≡ []
  inscriptions_fine p [] [] good are = refl
  inscriptions_fine p (a ∷ arcs) (i ∷ is) good are =
      let is_arc = All-head (IsWArc (length wps)) a arcs good in
      let more = nat_lt 1 a.weight in
      let place = are.0.place in
      none_both (inscription_faults scope p i i.form) (inscriptions_faults scope (after p i.form) is)
      (ap (inscription_faults scope p i) are.0.form
      ∙ none_both (arc_faults (form_kind more a.kind) _ place (Some are.0.expr) _)
      (counted_faults (form_kind more a.kind) (scope.has_capacity place.text) (Some are.0.expr)
      (λ name. is_some (p.setter name)))
      (weight_fine a (length wps) more is_arc refl (scope.pattern_of_place place.text) place
      are.0.expr _ (ap scope.pattern_of_place are.0.name ∙ known a.place is_arc.place) are.0.weight)
      (counted_fine (form_kind more a.kind) (scope.has_capacity place.text) are.0.expr
      (λ name. is_some (p.setter name)) (uncapped place.text)))
      (inscriptions_fine (after p i.form) arcs is (All-tail (IsWArc (length wps)) a arcs good) are.1)
  inscriptions_fine p [] (i ∷ is) good are = absurd are
  inscriptions_fine p (a ∷ arcs) [] good are = absurd are

  transition_fine : (wt : WTransition) (t : PTransition) → IsWTransition (length wps) wt →
      IsTransitionForm wps wt t → transition_faults scope t ≡ []
  transition_fine wt t good is =
      let count = length-map t.inscriptions (λ i. i.spot) in
      let same = same_length (IsArcForm wps) wt.arcs t.inscriptions is.arcs in
      none_both (inscriptions_faults scope (at_first t.inscriptions) t.inscriptions)
      (past_limit most_inscriptions (map (λ i. i.spot) t.inscriptions))
      (inscriptions_fine (at_first t.inscriptions) wt.arcs t.inscriptions good.arcs is.arcs)
      (within_limit most_inscriptions (map (λ i. i.spot) t.inscriptions)
      (omega (arith, count, same, good.few)))

  transitions_fine : (wts : List WTransition) (ts : List PTransition) →
      All (IsWTransition (length wps)) wts → AllZip (IsTransitionForm wps) wts ts →
      flat_map (transition_faults scope) ts ≡ []
  transitions_fine [] [] good are = refl
  transitions_fine (wt ∷ wts) (t ∷ ts) good are =
      none_both (transition_faults scope t) (flat_map (transition_faults scope) ts)
      (transition_fine wt t (All-head (IsWTransition (length wps)) wt wts good) are.0)
      (transitions_fine wts ts (All-tail (IsWTransition (length wps)) wt wts good) are.1)
  transitions_fine [] (t ∷ ts) good are = absurd are
  transitions_fine (wt ∷ wts) [] good are = absurd are

transition_names : (wps : List WPlace) (wts : List WTransition) (ts : List PTransition) →
    AllZip (IsTransitionForm wps) wts ts →
    map (λ n. n.text) (map (λ t. t.name) ts) ≡ map (λ wt. wt.name) wts
transition_names wps [] [] are = refl
transition_names wps (wt ∷ wts) (t ∷ ts) are =
    ap (λ x. x ∷ map (λ n. n.text) (map (λ t. t.name) ts)) are.0.name
    ∙ ap (λ xs. wt.name ∷ xs) (transition_names wps wts ts are.1)
transition_names wps [] (t ∷ ts) are = absurd are
transition_names wps (wt ∷ wts) [] are = absurd are

place_names : (wps : List WPlace) (ps : List PPlace) → AllZip IsPlaceForm wps ps →
    map (λ n. n.text) (map (λ p. p.name) ps) ≡ map (λ wp. wp.name) wps
place_names [] [] are = refl
place_names (wp ∷ wps) (p ∷ ps) are =
    ap (λ x. x ∷ map (λ n. n.text) (map (λ p. p.name) ps)) are.0.name
    ∙ ap (λ xs. wp.name ∷ xs) (place_names wps ps are.1)
place_names [] (p ∷ ps) are = absurd are
place_names (wp ∷ wps) [] are = absurd are

module _ (net : Weighted) (plain : Plain) (main : PNet) (good : IsWeighted net)
    (is : IsNetForm net main) where
  abbrev Short : List ℕ → Type 0
  Short text = length text ≤ longest_name

  known : (k : ℕ) → k < length net.places →
      (scope_of plain main).pattern_of_place (place_name net.places k) ≡ Some tuple
  known k within =
      ap
      (λ texts. option_and_then (slice_get (map (λ p. pattern_of p.kind) main.places))
      (number_among texts (place_name net.places k)))
      (names_are net.places main.places is.places)
      ∙ ap (option_and_then (slice_get (map (λ p. pattern_of p.kind) main.places)))
      (place_found net.places k good.places_distinct within)
      ∙ patterns_are net.places main.places k is.places within

  uncapped : (name : List ℕ) → (scope_of plain main).has_capacity name ≡ false
  uncapped name =
      none_capped net.places main.places is.places
      (number_among (map (λ p. p.name.text) main.places) name)

  places_declared : declared_faults most_places (map (λ p. p.name) main.places) ≡ []
  places_declared =
      let count = length-map main.places (λ p. p.name) in
      let same = same_length IsPlaceForm net.places main.places is.places in
      declared_fine most_places (map (λ p. p.name) main.places) (map (λ wp. wp.name) net.places)
      (place_names net.places main.places is.places)
      (All-map Short (λ wp. wp.name) net.places
      (All-weaker IsWPlace (λ wp. Short wp.name) (λ wp g. g.name.1) net.places good.places))
      (pairs_map (λ wp. wp.name) net.places good.places_distinct)
      (omega (arith, count, same, good.few_places))

  transitions_declared :
      declared_faults most_transitions (map (λ t. t.name) main.transitions) ≡ []
  transitions_declared =
      let count = length-map main.transitions (λ t. t.name) in
      let same = same_length (IsTransitionForm net.places) net.transitions main.transitions
      is.transitions in
      declared_fine most_transitions (map (λ t. t.name) main.transitions)
      (map (λ wt. wt.name) net.transitions)
      (transition_names net.places net.transitions main.transitions is.transitions)
      (All-map Short (λ wt. wt.name) net.transitions
      (All-weaker (IsWTransition (length net.places)) (λ wt. Short wt.name) (λ wt g. g.name.1)
      net.transitions good.transitions))
      (pairs_map (λ wt. wt.name) net.transitions good.transitions_distinct)
      (omega (arith, count, same, good.few_transitions))

  net_fine : net_faults plain main ≡ []
  net_fine =
      let vars : List Fault = declared_faults most_vars (map (λ v. v.name) main.vars) in
      let kinds : List Fault = flat_map (λ v. kind_faults v.kind) main.vars in
      let places : List Fault = declared_faults most_places (map (λ p. p.name) main.places) in
      let inside : List Fault = flat_map place_faults main.places in
      let names : List Fault =
      declared_faults most_transitions (map (λ t. t.name) main.transitions) in
      let all : List Fault = flat_map (transition_faults (scope_of plain main)) main.transitions in
      none_both (vars ++ kinds ++ places ++ inside ++ names) all
      (none_both (vars ++ kinds ++ places ++ inside) names
      (none_both (vars ++ kinds ++ places) inside
      (none_both (vars ++ kinds) places
      (none_both vars kinds
      (ap (λ vs. declared_faults most_vars (map (λ v. v.name) vs)) is.vars)
      (ap (λ vs. flat_map (λ v. kind_faults v.kind) vs) is.vars))
      places_declared)
      (places_fine net.places main.places good.places is.places))
      transitions_declared)
      (transitions_fine (scope_of plain main) net.places known uncapped net.transitions main.transitions
      good.transitions is.transitions)

main_declared : (main : PNet) → main.name.text ≡ codes "main" →
    declared_faults most_nets (map (λ n. n.name) (main ∷ [])) ≡ []
main_declared main name =
    declared_fine most_nets (main.name ∷ []) (codes "main" ∷ []) (ap (λ text. text ∷ []) name)
    (All-cons (λ text. length text ≤ longest_name) (codes "main") [] (omega arith) (All-nil _))
    (λ i j d low high. absurd (let never : ⊥ = omega (arith, low, high) in never))
    (omega arith)

-- no rule is broken
pub unbroken : (net : Weighted) (plain : Plain) → IsWeighted net → IsForm net plain →
    system_faults plain ≡ []
unbroken net plain good is =
    let main = is.main in
    let here : same_name main.name.text (codes "main") ≡ true =
    ap (λ text. same_name text (codes "main")) is.stands.name ∙ numbers_themselves (codes "main") in
    let there : List Fault =
    broken_if (not (list_any (λ net. same_name net.name.text (codes "main")) plain.nets)) Rule.Main
    text_start in
    let channels : List Fault = channels_faults [] plain.channels in
    let few : List Fault = past_limit most_channels (map (λ c. c.name.spot) plain.channels) in
    let names : List Fault = declared_faults most_nets (map (λ n. n.name) plain.nets) in
    none_both (there ++ channels ++ few ++ names) (flat_map (net_faults plain) plain.nets)
    (none_both (there ++ channels ++ few) names
    (none_both (there ++ channels) few
    (none_both there channels
    (ap
    (λ nets. broken_if (not (list_any (λ net. same_name net.name.text (codes "main")) nets))
    Rule.Main text_start) is.nets
    ∙ ap (λ b. broken_if (not (b || false)) Rule.Main text_start) here)
    (ap (channels_faults []) is.channels))
    (ap (λ cs. past_limit most_channels (map (λ c. c.name.spot) cs)) is.channels))
    (ap (λ nets. declared_faults most_nets (map (λ n. n.name) nets)) is.nets
    ∙ main_declared main is.stands.name))
    (ap (flat_map (net_faults plain)) is.nets
    ∙ none_both (net_faults plain main) [] (net_fine net plain main good is.stands) refl)
