-- Tokens are one system at most, and a text spells one at most.
use Rattle.rn_net.proofs.Names.{◌≡◌, ℕ, inl, inr, List, [], ◌∷◌, ◌++◌, refl, sym, ◌∙◌, ap, subst, arith, Option, Token, TokenKind, OneReading, OneExpression, OneInscription, close_brace, open_brace, open_paren, close_paren, colon, equals, name_at, PName, PInscription, PConst, PKind, Plain, PNet, Part, Item, PlaceEnd, PMax, semicolon, net_word, trans_word, var_word, place_word, channel_word, max_name, IsKind, AreListed, kind_at, IsChannel, AreMoreNames, AreVars, AreInitial, IsPlace, AreInscriptions, AreParts, IsSystem, max_of, AreInscribedUpTo, IsNetPart, IsItem, IsInitialUpTo, IsPlaceEnd, AreNames, with_part, with_item, OneSystem, OneSpelled}
use Rattle.std.specs.Prelude.{Some, None}
use Rattle.rn_net.specs.declared.kinds.PKindForm.TheVariants as K
use Rattle.rn_net.specs.Nets.{AreItems}
use Rattle.rn_net.proofs.Sorts.{tell}
use Rattle.rn_net.proofs.Rows.{row_up_to}
use Rattle.rn_net.proofs.DeclarationPhrases.{channel_sort, channel_open, channel_kinds, channel_end, channel-only, name_row, vars_sort, vars_names, vars_kind, vars_end, vars-only, rest_with, max_number, EndForms, end-split, PlaceOn, place_on, place_kind, place_end, place_sort, place-only}
use Rattle.rn_net.proofs.NetPhrases.{inscriptions-apart, inscriptions-split, inscriptions_sort, transition_inside, transition_open, transition_sort, transition-only, parts-split, parts-apart, net_inside, net_open, net_sort, net-only, item-begins}
use Rattle.rn_net.proofs.Systems.{items-split, no-header}
use Rattle.rn_net.proofs.InscriptionReading.{one_statement}
use Rattle.rn_net.proofs.OnePhrase.{Same, One, differ, NoComma, OneRow, one_done, one_kind_then, one_name_then, one_number_then, one_then, one_up_to, one_kind, one_listed, one-constants}

-- tokens don't begin with two words
two_words : {ts us vs : List Token} {j k : TokenKind} {t u : Token} → ts ≡ t ∷ us → ts ≡ u ∷ vs → t.kind ≡ j → u.kind ≡ k → (tell j ≡ tell k → ⊥) → ⊥
two_words {t = t} {u = u} e f h k other = differ h (let same : t ≡ u = cc in ap (λ v. v.kind) same ∙ k) other

-- channels
one-channel : One channel_sort.is
one-channel = one_kind_then channel_word (λ w. _) (λ w.
    one_name_then (λ n. (channel_open n).is) (λ n.
    one_kind_then open_paren (λ p. (channel_kinds n).is) (λ p.
    one_then (AreListed close_paren) (λ ks. (channel_end n ks).is) (one_listed close_paren refl (λ e. cc)) (λ ks.
    one_kind_then semicolon (λ s. _) (λ s. one_done _)))))

one_channel : One IsChannel
one_channel ts r q a b x y = one-channel ts r q a b (channel-only ts a r x) (channel-only ts b q y)

-- variables
one-more-names : {a b c : List PName} {ts r q : List Token} → AreMoreNames a ts b r → AreMoreNames a ts c q → NoComma r → NoComma q → Same b c r q
one-more-names AreMoreNames.no_more_names AreMoreNames.no_more_names e f = (refl, refl)
one-more-names AreMoreNames.no_more_names (AreMoreNames.more_names h x m) e f = absurd (e h)
one-more-names (AreMoreNames.more_names h x m) AreMoreNames.no_more_names e f = absurd (f h)
one-more-names {a = a} {c = c} {q = q} (AreMoreNames.more_names {u = u} {ts = ts} {name = s} h x m) (AreMoreNames.more_names {name = z} i y n) e f =
    one-more-names m (subst (λ j. AreMoreNames (a ++ name_at u.spot j ∷ []) ts c q) (let d : z ≡ s = cc in d) n) e f

one-names : OneRow AreNames
one-names ts r q a b x y e f =
    let i = x.2 in let j = y.2 in
    let first : j.0 ≡ i.0 = let g = i.3 in let h = j.3 in cc in
    let others : y.1 ≡ x.1 = let g = i.3 in let h = j.3 in let k = i.5.1 in let l = j.5.1 in cc in
    let name : j.2 ≡ i.2 = let g = i.4 in let h = j.4 in cc in
    let same : y.0 ≡ x.0 = j.5.0 ∙ ap (λ t. name_at t.spot j.2) first ∙ ap (λ s. name_at i.0.spot s) name ∙ sym i.5.0 in
    one-more-names x.3 (subst (λ us. AreMoreNames (x.0 ∷ []) us b q) others (subst (λ n. AreMoreNames (n ∷ []) y.1 b q) same y.3)) e f

one-vars : One vars_sort.is
one-vars = one_kind_then var_word (λ w. vars_names.is) (λ w.
    one_then (row_up_to name_row colon).is (λ ns. (vars_kind ns).is) (one_up_to AreNames colon (λ e. cc) one-names) (λ ns.
    one_then IsKind (λ k. (vars_end ns k).is) one_kind (λ k.
    one_kind_then semicolon (λ s. _) (λ s. one_done _))))

one_vars : One AreVars
one_vars ts r q a b x y = one-vars ts r q a b (vars-only ts a r x) (vars-only ts b q y)

-- places
one-initial : {ts r q us vs : List Token} {a b : List PConst} {u v : Token} → AreInitial ts a r → AreInitial ts b q → r ≡ u ∷ us → q ≡ v ∷ vs → u.kind ≡ semicolon → v.kind ≡ semicolon → Same a b r q
one-initial AreInitial.none AreInitial.none e f h k = (refl, refl)
one-initial {u = u} AreInitial.none (AreInitial.some {t = t} i x) e f h k = absurd (let same : t ≡ u = cc in let g : t.kind ≡ semicolon = ap (λ w. w.kind) same ∙ h in cc)
one-initial {v = v} (AreInitial.some {t = t} i x) AreInitial.none e f h k = absurd (let same : t ≡ v = cc in let g : t.kind ≡ semicolon = ap (λ w. w.kind) same ∙ k in cc)
one-initial {us = us} {vs = vs} {u = u} {v = v} (AreInitial.some i x) (AreInitial.some j y) e f h k = one-constants x y (subst NoComma (sym e) (λ c. let g = h in cc)) (subst NoComma (sym f) (λ c. let g = k in cc))

one_initial : One IsInitialUpTo
one_initial ts r q a b x y =
    let s = one-initial x.2 y.2 x.3.1 y.3.1 x.3.2 y.3.2 in
    (x.3.3 ∙ s.0 ∙ sym y.3.3, let d = s.1 in let e = x.3.1 in let f = y.3.1 in cc)

-- initial tokens and the semicolon begin with `;` or `=`
no_initial : {kind : TokenKind} {ts mid rest : List Token} {is : List PConst} {t u : Token} {us : List Token} → AreInitial ts is mid → mid ≡ u ∷ rest → u.kind ≡ semicolon → ts ≡ t ∷ us → t.kind ≡ kind →
    (tell kind ≡ tell semicolon → ⊥) → (tell kind ≡ tell equals → ⊥) → ⊥
no_initial {t = t} {u = u} AreInitial.none e h f k a b = differ k (let same : t ≡ u = cc in ap (λ w. w.kind) same ∙ h) a
no_initial {t = t} (AreInitial.some {t = v} i x) e h f k a b = differ k (let same : t ≡ v = cc in ap (λ w. w.kind) same ∙ i) b

one_rest : (max : Option PMax) → One (rest_with max).is
one_rest max = one_then IsInitialUpTo (λ is. _) one_initial (λ is. one_done _)

one_end_forms : One EndForms
one_end_forms ts r q a b (inl x) (inl y) =
    one_kind_then max_name (λ s. max_number.is) (λ s. one_number_then (λ spot n. (rest_with (Some (max_of n spot))).is) (λ spot n. one_rest (Some (max_of n spot)))) ts r q a b x y
one_end_forms ts r q a b (inl x) (inr y) = let z = y.2 in absurd (no_initial z.2 z.3.1 z.3.2 x.2 x.3 (λ e. omega (arith, e)) (λ e. omega (arith, e)))
one_end_forms ts r q a b (inr x) (inl y) = let z = x.2 in absurd (no_initial z.2 z.3.1 z.3.2 y.2 y.3 (λ e. omega (arith, e)) (λ e. omega (arith, e)))
one_end_forms ts r q a b (inr x) (inr y) = one_rest None ts r q a b x y

one_end : One IsPlaceEnd
one_end ts r q a b x y = one_end_forms ts r q a b (end-split {ts = ts} {rest = r} {e = a} x) (end-split {ts = ts} {rest = q} {e = b} y)

one_place_end : (n : PName) (k : PKind) → One (place_end n k).is
one_place_end n k = one_then IsPlaceEnd (λ end. _) one_end (λ end. one_done _)

-- what follows the kind of a place doesn't begin with a colon
no_colon : {ts rest : List Token} {e : PlaceEnd} {t : Token} {us : List Token} → IsPlaceEnd ts e rest → ts ≡ t ∷ us → t.kind ≡ colon → ⊥
no_colon {ts = ts} {rest = rest} {e = e} x f k = elim (end-split {ts = ts} {rest = rest} {e = e} x) as (λ w. ⊥) [
  | inl y ↦ two_words f y.2 k y.3 (λ d. omega (arith, d))
  | inr y ↦ let z = y.2 in no_initial z.2 z.3.1 z.3.2 f k (λ d. omega (arith, d)) (λ d. omega (arith, d))
]

one_place_on : (n : PName) → One (PlaceOn n)
one_place_on n ts r q a b (inl x) (inl y) =
    one_kind_then colon (λ c. (place_kind n).is) (λ c. one_then IsKind (λ k. (place_end n k).is) one_kind (λ k. one_place_end n k)) ts r q a b x y
one_place_on n ts r q a b (inl x) (inr y) = absurd (no_colon {ts = ts} {rest = y.1} {e = y.0} y.2 x.2 x.3)
one_place_on n ts r q a b (inr x) (inl y) = absurd (no_colon {ts = ts} {rest = x.1} {e = x.0} x.2 y.2 y.3)
one_place_on n ts r q a b (inr x) (inr y) = one_place_end n (kind_at n.spot (K.Tuple [])) ts r q a b x y

one-place : One place_sort.is
one-place = one_kind_then place_word (λ w. _) (λ w. one_name_then (λ n. (place_on n).is) one_place_on)

one_place : One IsPlace
one_place ts r q a b x y = one-place ts r q a b (place-only ts a r x) (place-only ts b q y)

-- tokens are one inscription and one expression at most
abbrev pub Law : Type 0
Law = OneInscription × OneExpression

-- the tokens go on with a closing brace
abbrev Closes : List Token → Type 0
Closes ts = (t : Token) × (us : List Token) × (ts ≡ t ∷ us) × (t.kind ≡ close_brace)

-- transitions
no_inscription : (notation : ℕ) {ts mid : List Token} {is : List PInscription} → Closes ts → AreInscribedUpTo notation ts is mid → ⊥
no_inscription notation {mid = mid} {is = is} c x = inscriptions-apart notation (subst (λ us. AreInscribedUpTo notation us is mid) c.2 x) c.3

ends-inscriptions : (notation : ℕ) {a c : List PInscription} {ts q : List Token} → AreInscriptions notation a ts c q → Closes ts → Same a c ts q
ends-inscriptions notation y e = elim (inscriptions-split notation y) [ inl d ↦ (sym d.0, sym d.1) | inr g ↦ absurd (no_inscription notation e g.2) ]

-- what comes before a semicolon, and then the others
next_inscriptions : Law → (notation : ℕ) {a b c : List PInscription} {ts mid q : List Token} → AreInscribedUpTo notation ts b mid → AreInscriptions notation a ts c q → Closes q → AreInscriptions notation (a ++ b) mid c q
next_inscriptions law notation {a = a} {b = b} {c = c} {ts = ts} {mid = mid} {q = q} x y f = elim (inscriptions-split notation y) as (λ w. AreInscriptions notation (a ++ b) mid c q) [
  | inl d ↦ absurd (no_inscription notation (subst Closes d.1 f) x)
  | inr g ↦ let s = one_statement law.0 law.1 notation x g.2 in
      subst (λ us. AreInscriptions notation (a ++ b) us c q) (sym s.1) (subst (λ is. AreInscriptions notation (a ++ is) g.1 c q) (sym s.0) g.3)
]

one-inscriptions : Law → (notation : ℕ) {a b c : List PInscription} {ts r q : List Token} → AreInscriptions notation a ts b r → AreInscriptions notation a ts c q → Closes r → Closes q → Same b c r q
one-inscriptions law notation AreInscriptions.no_more_inscriptions y e f = ends-inscriptions notation y e
one-inscriptions law notation (AreInscriptions.more_inscriptions {more = more} x h m) y e f = one-inscriptions law notation m (next_inscriptions law notation (_, _, x, (_, refl, h, refl)) y f) e f

one-transition : Law → (notation : ℕ) → One (transition_sort notation).is
one-transition law notation = one_kind_then trans_word (λ w. _) (λ w.
    one_name_then (λ n. (transition_open notation n).is) (λ n.
    one_kind_then open_brace (λ b. (transition_inside notation n).is) (λ b.
    one_then (inscriptions_sort notation).is (λ all. _) (λ ts r q a b x y.
    let s = one-inscriptions law notation x.2 y.2 (x.3.0, r, x.3.1, x.3.2) (y.3.0, q, y.3.1, y.3.2) in
    (x.3.3 ∙ s.0 ∙ sym y.3.3, let d = s.1 in let e = x.3.1 in let f = y.3.1 in cc)) (λ all. one_done _))))

-- parts of nets
one_part : Law → (notation : ℕ) → One (IsNetPart notation)
one_part law notation ts r q (Part.Vars a) (Part.Vars b) x y = let s = one_vars ts r q a b x y in (ap Part.Vars s.0, s.1)
one_part law notation ts r q (Part.Place a) (Part.Place b) x y = let s = one_place ts r q a b x y in (ap Part.Place s.0, s.1)
one_part law notation ts r q (Part.Transition a) (Part.Transition b) x y = let s = one-transition law notation ts r q a b (transition-only notation ts a r x) (transition-only notation ts b q y) in (ap Part.Transition s.0, s.1)
one_part law notation ts r q (Part.Vars a) (Part.Place b) x y = let i = vars-only ts a r x in let j = place-only ts b q y in absurd (two_words i.2 j.2 i.3 j.3 (λ e. omega (arith, e)))
one_part law notation ts r q (Part.Vars a) (Part.Transition b) x y = let i = vars-only ts a r x in let j = transition-only notation ts b q y in absurd (two_words i.2 j.2 i.3 j.3 (λ e. omega (arith, e)))
one_part law notation ts r q (Part.Place a) (Part.Vars b) x y = let i = place-only ts a r x in let j = vars-only ts b q y in absurd (two_words i.2 j.2 i.3 j.3 (λ e. omega (arith, e)))
one_part law notation ts r q (Part.Place a) (Part.Transition b) x y = let i = place-only ts a r x in let j = transition-only notation ts b q y in absurd (two_words i.2 j.2 i.3 j.3 (λ e. omega (arith, e)))
one_part law notation ts r q (Part.Transition a) (Part.Vars b) x y = let i = transition-only notation ts a r x in let j = vars-only ts b q y in absurd (two_words i.2 j.2 i.3 j.3 (λ e. omega (arith, e)))
one_part law notation ts r q (Part.Transition a) (Part.Place b) x y = let i = transition-only notation ts a r x in let j = place-only ts b q y in absurd (two_words i.2 j.2 i.3 j.3 (λ e. omega (arith, e)))

no_part : (notation : ℕ) {ts : List Token} (mid : List Token) (p : Part) → Closes ts → IsNetPart notation ts p mid → ⊥
no_part notation mid p c x = parts-apart notation c.0 c.1 mid p (subst (λ us. IsNetPart notation us p mid) c.2 x) c.3

ends-parts : (notation : ℕ) {n b : PNet} {ts q : List Token} → AreParts notation n ts b q → Closes ts → Same n b ts q
ends-parts notation y e = elim (parts-split notation y) [ inl d ↦ (sym d.0, sym d.1) | inr g ↦ absurd (no_part notation g.1 g.0 e g.2) ]

-- a part, and then the others
next_part : Law → (notation : ℕ) {n b : PNet} {ts mid q : List Token} (p : Part) → IsNetPart notation ts p mid → AreParts notation n ts b q → Closes q → AreParts notation (with_part n p) mid b q
next_part law notation {n = n} {b = b} {ts = ts} {mid = mid} {q = q} p x y f = elim (parts-split notation y) as (λ w. AreParts notation (with_part n p) mid b q) [
  | inl d ↦ absurd (no_part notation mid p (subst Closes d.1 f) x)
  | inr g ↦ let s = one_part law notation ts mid g.1 p g.0 x g.2 in
      subst (λ us. AreParts notation (with_part n p) us b q) (sym s.1) (subst (λ o. AreParts notation (with_part n o) g.1 b q) (sym s.0) g.3)
]

one-parts : Law → (notation : ℕ) {n a b : PNet} {ts r q : List Token} → AreParts notation n ts a r → AreParts notation n ts b q → Closes r → Closes q → Same a b r q
one-parts law notation AreParts.no_more_parts y e f = ends-parts notation y e
one-parts law notation (AreParts.and_vars {more = more} x m) y e f = one-parts law notation m (next_part law notation (Part.Vars more) x y f) e f
one-parts law notation (AreParts.and_place {place = p} x m) y e f = one-parts law notation m (next_part law notation (Part.Place p) x y f) e f
one-parts law notation (AreParts.and_transition {transition = t} x m) y e f = one-parts law notation m (next_part law notation (Part.Transition t) x y f) e f

-- nets
one-net : Law → (notation : ℕ) → One (net_sort notation).is
one-net law notation = one_kind_then net_word (λ w. _) (λ w.
    one_name_then (λ n. (net_open notation n).is) (λ n.
    one_kind_then open_brace (λ b. (net_inside notation n).is) (λ b ts r q a c x y.
    let s = one-parts law notation x.2 y.2 (x.3.0, r, x.3.1, x.3.2) (y.3.0, q, y.3.1, y.3.2) in
    (x.3.3 ∙ s.0 ∙ sym y.3.3, let d = s.1 in let e = x.3.1 in let f = y.3.1 in cc))))

-- items, up to the end
one_item : Law → (notation : ℕ) → One (IsItem notation)
one_item law notation ts r q (Item.Channel a) (Item.Channel b) x y = let s = one_channel ts r q a b x y in (ap Item.Channel s.0, s.1)
one_item law notation ts r q (Item.Net a) (Item.Net b) x y = let s = one-net law notation ts r q a b (net-only notation ts a r x) (net-only notation ts b q y) in (ap Item.Net s.0, s.1)
one_item law notation ts r q (Item.Channel a) (Item.Net b) x y = let i = channel-only ts a r x in let j = net-only notation ts b q y in absurd (two_words i.2 j.2 i.3 j.3 (λ e. omega (arith, e)))
one_item law notation ts r q (Item.Net a) (Item.Channel b) x y = let i = net-only notation ts a r x in let j = channel-only ts b q y in absurd (two_words i.2 j.2 i.3 j.3 (λ e. omega (arith, e)))

no_item : (notation : ℕ) {ts : List Token} (mid : List Token) (i : Item) → ts ≡ [] → IsItem notation ts i mid → ⊥
no_item notation {ts = ts} mid i is x = let y = item-begins notation ts mid i x in let e = y.2 in cc

next_item : Law → (notation : ℕ) {p b : Plain} {ts mid : List Token} (i : Item) → IsItem notation ts i mid → AreItems notation p ts b → AreItems notation (with_item p i) mid b
next_item law notation {p = p} {b = b} {ts = ts} {mid = mid} i x y = elim (items-split notation y) as (λ w. AreItems notation (with_item p i) mid b) [
  | inl d ↦ absurd (no_item notation mid i d.0 x)
  | inr g ↦ let s = one_item law notation ts mid g.1 i g.0 x g.2 in
      subst (λ us. AreItems notation (with_item p i) us b) (sym s.1) (subst (λ o. AreItems notation (with_item p o) g.1 b) (sym s.0) g.3)
]

ends-items : (notation : ℕ) {p b : Plain} {ts : List Token} → AreItems notation p ts b → ts ≡ [] → p ≡ b
ends-items notation y e = elim (items-split notation y) [ inl d ↦ sym d.1 | inr g ↦ absurd (no_item notation g.1 g.0 e g.2) ]

one-items : Law → (notation : ℕ) {p a b : Plain} {ts : List Token} → AreItems notation p ts a → AreItems notation p ts b → a ≡ b
one-items law notation AreItems.no_more_items y = ends-items notation y refl
one-items law notation (AreItems.and_channel {channel = c} x m) y = one-items law notation m (next_item law notation (Item.Channel c) x y)
one-items law notation (AreItems.and_net {net = n} x m) y = one-items law notation m (next_item law notation (Item.Net n) x y)

pub one_system : Law → OneSystem
one_system law tokens p q x y = by x y
  where
    by : {ts : List Token} {a b : Plain} → IsSystem ts a → IsSystem ts b → a ≡ b
    by (IsSystem.first x) (IsSystem.first y) = one-items law 1 x y
    by (IsSystem.first x) (IsSystem.second h k c y) = absurd (no-header 1 x h)
    by (IsSystem.second h k c x) (IsSystem.first y) = absurd (no-header 1 y h)
    by (IsSystem.second h k c x) (IsSystem.second i l d y) = one-items law 2 x y

pub one_text : Law → OneReading → OneSpelled
one_text law one bytes p q x y =
    one_system law x.tokens p q x.system (subst (λ ts. IsSystem ts q) (one bytes y.tokens x.tokens y.read x.read) y.system)
