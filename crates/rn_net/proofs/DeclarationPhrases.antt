-- The productions of declarations, one token after another.
use Rattle.rn_net.proofs.Names.{◌≡◌, ℕ, ◌+◌, ◌≤◌, ◌⊎◌, inl, inr, List, [], ◌∷◌, ◌++◌, length, drop, refl, sym, ◌∙◌, ap, subst, arith, Option, Result, Ok, Err, MatchResult, Spot, Token, TokenKind, Name, Number, Phrases, Then, Done, BeginAlike, Sort, MovesOn, done, name_at, open_paren, close_paren, comma, colon, equals, Takes, IsNextKind, IsNotNextKind, IsNextName, IsNoName, PName, ReadFault, PKind, PConst, PChannel, PVar, PPlace, PMax, PlaceEnd, semicolon, channel_word, var_word, place_word, max_name, IsKind, AreListed, kind_at, IsChannel, AreVars, AreMoreNames, IsKindOfPlace, IsCapacity, AreInitial, IsPlace, channel_of, var_of, max_of, place_of, IsPName, AreNames, IsInitialUpTo, IsPlaceEnd, end_of, Region, between, declaring, Stage, Fails, Reads, HasNext, IsNoNumber, any, and_then, alike-cons}
use Rattle.std.specs.Prelude.{map, ℤ, Some, None}
use Rattle.rn_reading.specs.declared.fault.ReadFault.TheVariants as Fault
use Rattle.rn_net.specs.declared.kinds.PKindForm.TheVariants as K
use Rattle.rn_net.proofs.Sorts.{WithKind, kind_then, name_then, number_then, kind_read, kind_stuck, name_read, name_fails, number_read, number_stuck, from_done, next_is, tell_apart}
use Rattle.rn_net.proofs.Steps.{begin, change}
use Rattle.rn_net.proofs.Rows.{Row, row_up_to}
use Rattle.rn_net.proofs.KindPhrases as KP
use Rattle.rn_net.proofs.ConstantPhrases.{constant_row}

pub has_next : {kind : TokenKind} (tokens : List Token) (at : ℕ) (next : IsNextKind tokens at kind) → HasNext tokens at kind next.0.spot
has_next tokens at next = (next.0, next.1, next.2, refl)

-- `channel c(int,text);`
abbrev pub channel_end : PName → List PKind → Sort PChannel
channel_end name kinds = kind_then semicolon (λ s. done (channel_of name kinds))

abbrev pub channel_kinds : PName → Sort PChannel
channel_kinds name = and_then (KP.listed close_paren) (channel_end name)

abbrev pub channel_open : PName → Sort PChannel
channel_open name = kind_then open_paren (λ p. channel_kinds name)

abbrev pub channel_sort : Sort PChannel
channel_sort = kind_then channel_word (λ w. name_then channel_open)

pub channel-on : (ts : List Token) (e : PChannel) (rest : List Token) → channel_sort.is ts e rest → IsChannel ts e rest
channel-on ts e rest x =
    let n = x.4 in let p = n.5 in let k = p.4 in let s = k.3 in
    subst (λ us. IsChannel us e rest) (sym (x.2 ∙ ap (λ us. x.0 ∷ us) (n.3 ∙ ap (λ us. n.0 ∷ us) p.2)))
    (from_done (λ b r. IsChannel (x.0 ∷ n.0 ∷ p.0 ∷ p.1) b r) s.4 (IsChannel.channel x.3 n.4 p.3 (subst (λ us. AreListed close_paren p.1 k.0 us) s.2 k.2) s.3))

pub channel-only : (ts : List Token) (e : PChannel) (rest : List Token) → IsChannel ts e rest → channel_sort.is ts e rest
channel-only ts e rest x = by x
  where
    by : {ts rest : List Token} {e : PChannel} → IsChannel ts e rest → channel_sort.is ts e rest
    by (IsChannel.channel a b c l s) = (_, _, refl, a, (_, _, _, refl, b, (_, _, refl, c, (_, _, l, (_, _, refl, s, (refl, refl))))))

pub channel_begun : (tokens : List Token) (at start : ℕ) → IsNextKind tokens at channel_word → start ≡ at + 1 → Stage IsChannel (drop at tokens) between (name_then channel_open) (drop start tokens) (declaring 0)
channel_begun tokens at start next there = kind_read (λ w. name_then channel_open) tokens at start (declaring 0) (begin channel_sort (drop at tokens) between channel-on (λ ts e rest alike x. channel-only ts e rest x)) (has_next tokens at next) there refl refl

pub channel_named : (tokens : List Token) (at start after_name : ℕ) (name : PName) → IsNextKind tokens at channel_word → start ≡ at + 1 → IsNextName tokens start name → after_name ≡ start + 1 →
    Stage IsChannel (drop at tokens) between (channel_open name) (drop after_name tokens) (declaring 0)
channel_named tokens at start after_name name next begun named there = name_read channel_open tokens start after_name (declaring 0) name (channel_begun tokens at start next begun) named there (λ s. refl) (λ s. refl)

pub channel_inside : {spot : Spot} (tokens : List Token) (at start after_name inside : ℕ) (name : PName) → IsNextKind tokens at channel_word → start ≡ at + 1 → IsNextName tokens start name → after_name ≡ start + 1 →
    HasNext tokens after_name open_paren spot → inside ≡ after_name + 1 → Stage IsChannel (drop at tokens) between (channel_kinds name) (drop inside tokens) (declaring (0 + 1))
channel_inside tokens at start after_name inside name next begun named there paren then_at = kind_read (λ p. channel_kinds name) tokens after_name inside (declaring (0 + 1)) (channel_named tokens at start after_name name next begun named there) paren then_at refl refl

-- `var x, y: int;`
abbrev pub names : Sort PName
names = record { is = IsPName; ends = (any (Name []) ∷ [], _, λ rest. (any (Name []), rest, [], refl, refl, (refl, refl))) }

pub more-names-split : {all es : List PName} {ts rest : List Token} → AreMoreNames all ts es rest →
    ((es ≡ all) × (rest ≡ ts)) ⊎ ((t : Token) × (us : List Token) × (ts ≡ t ∷ us) × (t.kind ≡ comma) × Then IsPName (λ e. AreMoreNames (all ++ e ∷ [])) us es rest)
more-names-split (AreMoreNames.no_more_names) = inl (refl, refl)
more-names-split (AreMoreNames.more_names c h more) = inr (_, _, refl, c, (_, _, (_, _, _, refl, h, (refl, refl)), more))

pub more-names-on : {t : Token} {us mid rest : List Token} {all es : List PName} {e : PName} → t.kind ≡ comma → IsPName us e mid → AreMoreNames (all ++ e ∷ []) mid es rest → AreMoreNames all (t ∷ us) es rest
more-names-on {t = t} {us = us} {mid = mid} {rest = rest} {all = all} {es = es} c x more =
    subst (λ vs. AreMoreNames all (t ∷ vs) es rest) (sym x.3)
    (AreMoreNames.more_names c x.4 (subst (λ vs. AreMoreNames (all ++ name_at x.0.spot x.2 ∷ []) vs es rest) x.5.1 (subst (λ n. AreMoreNames (all ++ n ∷ []) mid es rest) x.5.0 more)))

abbrev pub name_row : Row names AreNames AreMoreNames
name_row = record {
  nothing = λ all ts. AreMoreNames.no_more_names;
  on = λ c x more. more-names-on c x more;
  split = λ x. more-names-split x;
  join = λ x more. (_, _, x, more);
  part = λ x. x;
}

pub name_reads : {name : PName} (tokens : List Token) (at next : ℕ) → IsNextName tokens at name → next ≡ at + 1 → Stage IsPName (drop at tokens) (declaring 0) (done name) (drop next tokens) (declaring 0)
name_reads {name = name} tokens at next named there = name_read done tokens at next (declaring 0) name (begin (name_then done) (drop at tokens) (declaring 0) (λ ts e rest x. x) (λ ts e rest alike x. x)) named there (λ s. refl) (λ s. refl)

pub name_none : (tokens : List Token) (at : ℕ) (e : ReadFault) → at ≤ length tokens → IsNoName tokens at e → Fails IsPName (drop at tokens) (declaring 0) (length tokens) e
name_none tokens at e inside bad = name_fails done tokens at e (begin (name_then done) (drop at tokens) (declaring 0) (λ ts e rest x. x) (λ ts e rest alike x. x)) inside bad

abbrev pub vars_end : List PName → PKind → Sort (List PVar)
vars_end names kind = kind_then semicolon (λ s. done (map (var_of kind) names))

abbrev pub vars_kind : List PName → Sort (List PVar)
vars_kind names = and_then KP.kinds (vars_end names)

abbrev pub vars_names : Sort (List PVar)
vars_names = and_then (row_up_to name_row colon) vars_kind

abbrev pub vars_sort : Sort (List PVar)
vars_sort = kind_then var_word (λ w. vars_names)

pub vars-on : (ts : List Token) (e : List PVar) (rest : List Token) → vars_sort.is ts e rest → AreVars ts e rest
vars-on ts e rest x =
    let ns = x.4.2 in let n = ns.2.2 in let k = x.4.3 in let s = k.3 in
    subst (λ us. AreVars us e rest) (sym (x.2 ∙ ap (λ us. x.0 ∷ us) n.3))
    (from_done (λ b r. AreVars (x.0 ∷ n.0 ∷ n.1) b r) s.4
    (AreVars.vars x.3 n.4
    (subst (λ us. AreMoreNames (name_at n.0.spot n.2 ∷ []) us x.4.0 (ns.3.0 ∷ x.4.1)) n.5.1 (subst (λ m. AreMoreNames (m ∷ []) ns.2.1 x.4.0 (ns.3.0 ∷ x.4.1)) n.5.0 (subst (λ es. AreMoreNames (ns.2.0 ∷ []) ns.2.1 es (ns.3.0 ∷ x.4.1)) (sym ns.3.3) (subst (λ r. AreMoreNames (ns.2.0 ∷ []) ns.2.1 ns.0 r) ns.3.1 ns.2.3))))
    ns.3.2 (subst (λ us. IsKind x.4.1 k.0 us) s.2 k.2) s.3))

pub vars-only : (ts : List Token) (e : List PVar) (rest : List Token) → AreVars ts e rest → vars_sort.is ts e rest
vars-only ts e rest x = by x
  where
    by : {ts rest : List Token} {e : List PVar} → AreVars ts e rest → vars_sort.is ts e rest
    by (AreVars.vars a b ns c k s) = (_, _, refl, a, (_, _, (_, _, (_, _, (_, _, _, refl, b, (refl, refl)), ns), (_, refl, c, refl)), (_, _, k, (_, _, refl, s, (refl, refl)))))

pub vars_begun : (tokens : List Token) (at start : ℕ) → IsNextKind tokens at var_word → start ≡ at + 1 → Stage AreVars (drop at tokens) between vars_names (drop start tokens) (declaring 0)
vars_begun tokens at start next there = kind_read (λ w. vars_names) tokens at start (declaring 0) (begin vars_sort (drop at tokens) between vars-on (λ ts e rest alike x. vars-only ts e rest x)) (has_next tokens at next) there refl refl

-- initial tokens
abbrev InitialForms : Phrases (List PConst)
InitialForms ts es rest = WithKind semicolon (λ spot. Done []) ts es rest ⊎ WithKind equals (λ spot. (row_up_to constant_row semicolon).is) ts es rest

initial-split : {ts rest : List Token} {es : List PConst} → IsInitialUpTo ts es rest → InitialForms ts es rest
initial-split x = by x.2 x.3
  where
    by : {ts mid rest : List Token} {es is : List PConst} → AreInitial ts is mid → Takes semicolon is mid es rest → InitialForms ts es rest
    by (AreInitial.none) y = inl (y.0, _, y.1, y.2, (y.3, refl))
    by (AreInitial.some c k) y = inr (_, _, refl, c, (_, _, k, y))

abbrev pub initials : Sort (List PConst)
initials = record { is = IsInitialUpTo; ends = (any semicolon ∷ [], [], λ rest. ([], any semicolon ∷ rest, AreInitial.none, (any semicolon, refl, refl, refl))) }

pub initial_none : {spot : Spot} (tokens : List Token) (at next : ℕ) → HasNext tokens at semicolon spot → next ≡ at + 1 → Stage IsInitialUpTo (drop at tokens) (declaring 0) (done []) (drop next tokens) between
initial_none tokens at next here there = kind_read (λ spot. done []) tokens at next between
    (begin (kind_then semicolon (λ spot. done [])) (drop at tokens) (declaring 0)
    (λ ts es rest x. ([], ts, AreInitial.none, (x.0, x.2 ∙ ap (λ us. x.0 ∷ us) (sym x.4.1), x.3, x.4.0)))
    (λ ts es rest alike x. elim (initial-split {ts = ts} {rest = rest} {es = es} x) as (λ w. WithKind semicolon (λ spot. Done []) ts es rest) [ inl y ↦ y | inr y ↦ absurd (tell_apart semicolon equals (sym (next_is tokens at y.0 y.1 here alike y.2) ∙ y.3) (λ e. omega (arith, e))) ]))
    here there refl refl

initial-some : (tokens : List Token) (at : ℕ) → IsNotNextKind tokens at semicolon → Stage IsInitialUpTo (drop at tokens) (declaring 0) (kind_then equals (λ spot. row_up_to constant_row semicolon)) (drop at tokens) (declaring 0)
initial-some tokens at other = begin (kind_then equals (λ spot. row_up_to constant_row semicolon)) (drop at tokens) (declaring 0)
    (λ ts es rest x. subst (λ us. IsInitialUpTo us es rest) (sym x.2) (x.4.0, x.4.1, AreInitial.some x.3 x.4.2, x.4.3))
    (λ ts es rest alike x. elim (initial-split {ts = ts} {rest = rest} {es = es} x) as (λ w. WithKind equals (λ spot. (row_up_to constant_row semicolon).is) ts es rest) [
      | inl y ↦ absurd (let next = alike-cons (drop at tokens) y.0 y.1 (subst (λ us. BeginAlike (drop at tokens) us) y.2 alike) in other y.0 next.0 next.1 y.3)
      | inr y ↦ y
    ])

pub initial_stuck : (tokens : List Token) (at : ℕ) → at ≤ length tokens → IsNotNextKind tokens at semicolon → IsNotNextKind tokens at equals → Fails IsInitialUpTo (drop at tokens) (declaring 0) (length tokens) (Fault.Stopped at)
initial_stuck tokens at inside a b = kind_stuck (λ spot. row_up_to constant_row semicolon) tokens at (initial-some tokens at a) inside b

initial-first : {k : TokenKind} {spot : Spot} (tokens : List Token) (at : ℕ) {ts rest : List Token} {es : List PConst} → HasNext tokens at k spot → BeginAlike (drop at tokens) ts → IsInitialUpTo ts es rest → (k ≡ semicolon) ⊎ (k ≡ equals)
initial-first tokens at {ts = ts} {rest = rest} {es = es} here alike x = elim (initial-split {ts = ts} {rest = rest} {es = es} x) [ inl y ↦ inl (sym (next_is tokens at y.0 y.1 here alike y.2) ∙ y.3) | inr y ↦ inr (sym (next_is tokens at y.0 y.1 here alike y.2) ∙ y.3) ]

pub initial_open : {spot : Spot} (tokens : List Token) (at next : ℕ) → IsNotNextKind tokens at semicolon → HasNext tokens at equals spot → next ≡ at + 1 → Stage IsInitialUpTo (drop at tokens) (declaring 0) (row_up_to constant_row semicolon) (drop next tokens) (declaring 0)
initial_open tokens at next a here there = kind_read (λ spot. row_up_to constant_row semicolon) tokens at next (declaring 0) (initial-some tokens at a) here there refl refl

-- the end of a place, with `max` or without
abbrev pub rest_with : Option PMax → Sort PlaceEnd
rest_with max = and_then initials (λ initial. done (end_of max initial))

abbrev pub max_number : Sort PlaceEnd
max_number = number_then (λ spot number. rest_with (Some (max_of number spot)))

abbrev pub EndForms : Phrases PlaceEnd
EndForms ts e rest = WithKind max_name (λ spot. max_number.is) ts e rest ⊎ (rest_with None).is ts e rest

pub end-split : {ts rest : List Token} {e : PlaceEnd} → IsPlaceEnd ts e rest → EndForms ts e rest
end-split x = by x.2 x.3
  where
    by : {ts mid rest : List Token} {e : PlaceEnd} {max : Option PMax} → IsCapacity ts max mid → (rest_with max).is mid e rest → EndForms ts e rest
    by (IsCapacity.none) y = inr y
    by (IsCapacity.some m n) y = inl (_, _, refl, m, (_, _, _, refl, n, y))

abbrev pub ends : Sort PlaceEnd
ends = record { is = IsPlaceEnd; ends = let y = (rest_with None).ends in (y.0, y.1, λ rest. (None, y.0 ++ rest, IsCapacity.none, y.2 rest)) }

max-on : (ts : List Token) (e : PlaceEnd) (rest : List Token) → WithKind max_name (λ spot. max_number.is) ts e rest → IsPlaceEnd ts e rest
max-on ts e rest x = let n = x.4 in
    subst (λ us. IsPlaceEnd us e rest) (sym (x.2 ∙ ap (λ us. x.0 ∷ us) n.3)) (Some (max_of n.2 n.0.spot), n.1, IsCapacity.some x.3 n.4, n.5)

max-some : {spot : Spot} (tokens : List Token) (at : ℕ) → HasNext tokens at max_name spot → Stage IsPlaceEnd (drop at tokens) (declaring 0) (kind_then max_name (λ spot. max_number)) (drop at tokens) (declaring 0)
max-some tokens at here = begin (kind_then max_name (λ spot. max_number)) (drop at tokens) (declaring 0) max-on
    (λ ts e rest alike x. elim (end-split {ts = ts} {rest = rest} {e = e} x) as (λ w. WithKind max_name (λ spot. max_number.is) ts e rest) [
      | inl y ↦ y
      | inr y ↦ absurd (elim (initial-first tokens at here alike y.2) as (λ w. ⊥) [ inl h ↦ tell_apart max_name semicolon h (λ d. omega (arith, d)) | inr h ↦ tell_apart max_name equals h (λ d. omega (arith, d)) ])
    ])

pub max_begun : {spot : Spot} (tokens : List Token) (at next : ℕ) → HasNext tokens at max_name spot → next ≡ at + 1 → Stage IsPlaceEnd (drop at tokens) (declaring 0) max_number (drop next tokens) (declaring 0)
max_begun tokens at next here there = kind_read (λ spot. max_number) tokens at next (declaring 0) (max-some tokens at here) here there refl refl

pub max_given : {spot number_spot : Spot} {number : ℤ} (tokens : List Token) (at next last : ℕ) → HasNext tokens at max_name spot → next ≡ at + 1 → HasNext tokens next (Number number) number_spot → last ≡ next + 1 →
    Stage IsPlaceEnd (drop at tokens) (declaring 0) (rest_with (Some (max_of number number_spot))) (drop last tokens) (declaring 0)
max_given tokens at next last here there number then_at = number_read (λ spot number. rest_with (Some (max_of number spot))) tokens next last (declaring 0) (max_begun tokens at next here there) number then_at refl refl

pub max_stuck : {spot : Spot} (tokens : List Token) (at next : ℕ) → HasNext tokens at max_name spot → next ≡ at + 1 → IsNoNumber tokens next → Fails IsPlaceEnd (drop at tokens) (declaring 0) (length tokens) (Fault.Stopped next)
max_stuck tokens at next here there none = number_stuck (λ spot number. rest_with (Some (max_of number spot))) tokens next (max_begun tokens at next here there) (omega (arith, there, here.1.1)) none

pub max_none : (tokens : List Token) (at : ℕ) → IsNotNextKind tokens at max_name → Stage IsPlaceEnd (drop at tokens) (declaring 0) (rest_with None) (drop at tokens) (declaring 0)
max_none tokens at other = begin (rest_with None) (drop at tokens) (declaring 0)
    (λ ts e rest x. (None, ts, IsCapacity.none, x))
    (λ ts e rest alike x. elim (end-split {ts = ts} {rest = rest} {e = e} x) as (λ w. (rest_with None).is ts e rest) [
      | inl y ↦ absurd (let next = alike-cons (drop at tokens) y.0 y.1 (subst (λ us. BeginAlike (drop at tokens) us) y.2 alike) in other y.0 next.0 next.1 y.3)
      | inr y ↦ y
    ])

-- `place p: int max 5 = 1, 2;`
abbrev pub place_end : PName → PKind → Sort PPlace
place_end name kind = and_then ends (λ end. done (place_of name kind end.initial end.max))

abbrev pub place_kind : PName → Sort PPlace
place_kind name = and_then KP.kinds (place_end name)

-- what stands after the name of a place
abbrev pub PlaceOn : PName → Phrases PPlace
PlaceOn name ts e rest = WithKind colon (λ c. (place_kind name).is) ts e rest ⊎ (place_end name (kind_at name.spot (K.Tuple []))).is ts e rest

abbrev pub place_on : PName → Sort PPlace
place_on name = record { is = PlaceOn name; ends = let y = (place_end name (kind_at name.spot (K.Tuple []))).ends in (y.0, y.1, λ rest. inr (y.2 rest)) }

abbrev pub place_sort : Sort PPlace
place_sort = kind_then place_word (λ w. name_then place_on)

place-built : {t u : Token} {ts mid rest : List Token} {s : List ℕ} {kind : PKind} {e : PPlace} → t.kind ≡ place_word → u.kind ≡ Name s → IsKindOfPlace u.spot ts kind mid → (place_end (name_at u.spot s) kind).is mid e rest → IsPlace (t ∷ u ∷ ts) e rest
place-built {t = t} {u = u} {ts = ts} {s = s} {kind = kind} a b k x =
    let c = x.2 in let i = c.3 in let y = i.2 in
    from_done (λ c r. IsPlace (t ∷ u ∷ ts) c r) x.3
    (subst (λ end. IsPlace (t ∷ u ∷ ts) (place_of (name_at u.spot s) kind end.initial end.max) x.1) (sym i.3.0)
    (subst (λ r. IsPlace (t ∷ u ∷ ts) (place_of (name_at u.spot s) kind i.0 c.0) r) (sym i.3.1)
    (subst (λ is. IsPlace (t ∷ u ∷ ts) (place_of (name_at u.spot s) kind is c.0) i.1) (sym y.3.3)
    (IsPlace.place a b k c.2 (subst (λ us. AreInitial c.1 y.0 us) y.3.1 y.2) y.3.2))))

pub place-on : (ts : List Token) (e : PPlace) (rest : List Token) → place_sort.is ts e rest → IsPlace ts e rest
place-on ts e rest x = let n = x.4 in
    subst (λ us. IsPlace us e rest) (sym (x.2 ∙ ap (λ us. x.0 ∷ us) n.3)) (elim n.5 as (λ w. IsPlace (x.0 ∷ n.0 ∷ n.1) e rest) [
      | inl y ↦ place-built x.3 n.4 (subst (λ us. IsKindOfPlace n.0.spot us y.4.0 y.4.1) (sym y.2) (IsKindOfPlace.given y.3 y.4.2)) y.4.3
      | inr y ↦ place-built x.3 n.4 IsKindOfPlace.absent y
    ])

pub place-only : (ts : List Token) (e : PPlace) (rest : List Token) → IsPlace ts e rest → place_sort.is ts e rest
place-only ts e rest x = by x
  where
    end-of : {mid us rest : List Token} {v : Token} {name : PName} {kind : PKind} {max : Option PMax} {initial : List PConst} → IsCapacity mid max us → AreInitial us initial (v ∷ rest) → v.kind ≡ semicolon → (place_end name kind).is mid (place_of name kind initial max) rest
    end-of m i s = (_, _, (_, _, m, (_, _, (_, _, i, (_, refl, s, refl)), (refl, refl))), (refl, refl))

    on-of : {spot : Spot} {s : List ℕ} {ts mid us rest : List Token} {v : Token} {kind : PKind} {max : Option PMax} {initial : List PConst} → IsKindOfPlace spot ts kind mid → IsCapacity mid max us → AreInitial us initial (v ∷ rest) → v.kind ≡ semicolon → PlaceOn (name_at spot s) ts (place_of (name_at spot s) kind initial max) rest
    on-of (IsKindOfPlace.absent) m i s = inr (end-of m i s)
    on-of (IsKindOfPlace.given c k) m i s = inl (_, _, refl, c, (_, _, k, end-of m i s))

    by : {ts rest : List Token} {e : PPlace} → IsPlace ts e rest → place_sort.is ts e rest
    by (IsPlace.place a b k m i s) = (_, _, refl, a, (_, _, _, refl, b, on-of k m i s))

pub place_begun : (tokens : List Token) (at start : ℕ) → IsNextKind tokens at place_word → start ≡ at + 1 → Stage IsPlace (drop at tokens) between (name_then place_on) (drop start tokens) (declaring 0)
place_begun tokens at start next there = kind_read (λ w. name_then place_on) tokens at start (declaring 0) (begin place_sort (drop at tokens) between place-on (λ ts e rest alike x. place-only ts e rest x)) (has_next tokens at next) there refl refl

pub place_named : (tokens : List Token) (at start after_name : ℕ) (name : PName) → IsNextKind tokens at place_word → start ≡ at + 1 → IsNextName tokens start name → after_name ≡ start + 1 → Stage IsPlace (drop at tokens) between (place_on name) (drop after_name tokens) (declaring 0)
place_named tokens at start after_name name next begun named there = name_read place_on tokens start after_name (declaring 0) name (place_begun tokens at start next begun) named there (λ s. refl) (λ s. refl)

-- a colon is next, or none
end-first : {k : TokenKind} {spot : Spot} (tokens : List Token) (at : ℕ) {ts rest : List Token} {e : PlaceEnd} → HasNext tokens at k spot → BeginAlike (drop at tokens) ts → IsPlaceEnd ts e rest → (k ≡ max_name) ⊎ ((k ≡ semicolon) ⊎ (k ≡ equals))
end-first tokens at {ts = ts} {rest = rest} {e = e} here alike x = elim (end-split {ts = ts} {rest = rest} {e = e} x) [ inl y ↦ inl (sym (next_is tokens at y.0 y.1 here alike y.2) ∙ y.3) | inr y ↦ inr (initial-first tokens at here alike y.2) ]

pub place_colon : {spot : Spot} {start : List Token} {first : Region} (tokens : List Token) (at next : ℕ) (name : PName) → Stage IsPlace start first (place_on name) (drop at tokens) (declaring 0) → HasNext tokens at colon spot → next ≡ at + 1 →
    Stage IsPlace start first (place_kind name) (drop next tokens) (declaring 0)
place_colon tokens at next name s here there = kind_read (λ c. place_kind name) tokens at next (declaring 0)
    (change (kind_then colon (λ c. place_kind name)) s (λ ts e rest x. inl x) (λ ts e rest alike x. elim x as (λ w. WithKind colon (λ c. (place_kind name).is) ts e rest) [
      | inl y ↦ y
      | inr y ↦ absurd (elim (end-first tokens at here alike y.2) as (λ w. ⊥) [
        | inl e ↦ tell_apart colon max_name e (λ h. omega (arith, h))
        | inr f ↦ elim f as (λ w. ⊥) [ inl e ↦ tell_apart colon semicolon e (λ h. omega (arith, h)) | inr e ↦ tell_apart colon equals e (λ h. omega (arith, h)) ]
      ])
    ]))
    here there refl refl

pub place_no_colon : {start : List Token} {first : Region} (tokens : List Token) (at : ℕ) (name : PName) → Stage IsPlace start first (place_on name) (drop at tokens) (declaring 0) → IsNotNextKind tokens at colon →
    Stage IsPlace start first (place_end name (kind_at name.spot (K.Tuple []))) (drop at tokens) (declaring 0)
place_no_colon tokens at name s other = change (place_end name (kind_at name.spot (K.Tuple []))) s (λ ts e rest x. inr x) (λ ts e rest alike x. elim x as (λ w. (place_end name (kind_at name.spot (K.Tuple []))).is ts e rest) [
  | inl y ↦ absurd (let next = alike-cons (drop at tokens) y.0 y.1 (subst (λ us. BeginAlike (drop at tokens) us) y.2 alike) in other y.0 next.0 next.1 y.3)
  | inr y ↦ y
])

-- a name read is what was expected
pub name_result : (tokens : List Token) (at : ℕ) (r : Result (PName × ℕ) ReadFault) → at ≤ length tokens → MatchResult r (λ found. IsNextName tokens at found.0 × (found.1 ≡ at + 1)) (λ fault. IsNoName tokens at fault) → Reads IsPName tokens at (declaring 0) (declaring 0) r
name_result tokens at (Ok (name, next)) inside h = name_reads tokens at next h.0 h.1
name_result tokens at (Err e) inside h = name_none tokens at e inside h

pub name_moves : (tokens : List Token) (at : ℕ) (r : Result (PName × ℕ) ReadFault) → MatchResult r (λ found. IsNextName tokens at found.0 × (found.1 ≡ at + 1)) (λ fault. IsNoName tokens at fault) → MovesOn tokens at r
name_moves tokens at (Ok (name, next)) h = (omega (arith, h.1), omega (arith, h.1, h.0.2.1))
name_moves tokens at (Err e) h = tt
