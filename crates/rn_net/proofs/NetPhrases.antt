-- The productions of transitions and nets, one after another, and the items of a text.
use Rattle.rn_net.proofs.Names.{◌≡◌, ℕ, ◌+◌, ◌≤◌, ◌⊎◌, inl, inr, true, false, Bool, not, List, [], ◌∷◌, ◌++◌, length, drop, refl, sym, ◌∙◌, ap, subst, arith, nat_eq, Spot, Token, TokenKind, Name, Word, Number, Text, Sign, ArcKind, Phrases, Then, Done, BeginAlike, Sort, done, PForm, PExpr, PInscribed, IsExpr, IsProduct, IsUnary, IsPrimary, IsInscribed, name_at, open_brace, close_brace, arc_of, target_of, Takes, IsNextKind, IsNotNextKind, IsNextName, PName, PInscription, PNet, PVar, PPlace, PChannel, Part, Item, net_word, trans_word, var_word, place_word, channel_word, AreInscribedUpTo, IsChannel, AreVars, IsPlace, IsTransition, AreInscribed, AreInscriptions, AreParts, IsNet, plain_net_of, transition_of, IsNetPart, IsItem, with_part, Region, is_too_deep, after, between, heading, Stage, Fails, HasNext, any, and_then, alike-cons}
use Rattle.std.specs.Prelude.{Some}
use Rattle.rn_reading.specs.declared.fault.ReadFault.TheVariants as Fault
use Rattle.rn_net.specs.declared.plain.PTransition.{PTransition}
use Rattle.rn_net.proofs.Sorts.{WithKind, kind_then, name_then, kind_read, name_read, from_done, next_is, tell_apart}
use Rattle.rn_net.proofs.Steps.{begin, change, stuck}
use Rattle.rn_net.proofs.InscriptionReading.{statement_sort}
use Rattle.rn_net.proofs.DeclarationPhrases.{has_next, channel_sort, channel-on, channel-only, vars_sort, vars-on, vars-only, place_sort, place-on, place-only}

-- phrases of which each adds something, up to a closing token that begins none of them
pub record Many {A B : Type 0} (Item : Sort A) (add : B → A → B) (More : B → Phrases B) (close : TokenKind) : Type 0 where
  pub nothing : (b : B) (ts : List Token) → More b ts b ts
  pub on : {ts mid rest : List Token} {a : A} {b e : B} → Item.is ts a mid → More (add b a) mid e rest → More b ts e rest
  pub split : {b e : B} {ts rest : List Token} → More b ts e rest → ((e ≡ b) × (rest ≡ ts)) ⊎ Then Item.is (λ a. More (add b a)) ts e rest
  pub apart : {t : Token} {us rest : List Token} {a : A} → Item.is (t ∷ us) a rest → t.kind ≡ close → ⊥
  pub some : {rest : List Token} {a : A} → Item.is [] a rest → ⊥

abbrev pub many_on : {A B : Type 0} {Item : Sort A} {add : B → A → B} {More : B → Phrases B} {close : TokenKind} → Many Item add More close → B → Sort B
many_on {More = More} {close = close} m b = record {
  is = Then (More b) (λ e. Takes close e);
  ends = (any close ∷ [], b, λ rest. (b, any close ∷ rest, m.nothing b (any close ∷ rest), (any close, refl, refl, refl)));
}

pub many_next : {A B : Type 0} {Item : Sort A} {add : B → A → B} {More : B → Phrases B} {close : TokenKind} {X : Phrases B} {start : List Token} {first now : Region} {b : B} (m : Many Item add More close) (tokens : List Token) (at : ℕ) →
    Stage X start first (many_on m b) (drop at tokens) now → IsNotNextKind tokens at close → Stage X start first (and_then Item (λ a. many_on m (add b a))) (drop at tokens) now
many_next {Item = Item} {add = add} {b = b} m tokens at s other = change (and_then Item (λ a. many_on m (add b a))) s
    (λ ts e rest x. (x.3.0, x.3.1, m.on x.2 x.3.2, x.3.3))
    (λ ts e rest alike x. elim (m.split x.2) as (λ w. (and_then Item (λ a. many_on m (add b a))).is ts e rest) [
      | inl d ↦ absurd (let next = alike-cons (drop at tokens) x.3.0 rest (subst (λ us. BeginAlike (drop at tokens) us) (sym d.1 ∙ x.3.1) alike) in other x.3.0 next.0 next.1 x.3.2)
      | inr g ↦ (g.0, g.1, g.2, (x.0, x.1, g.3, x.3))
    ])

pub many_close : {A B : Type 0} {Item : Sort A} {add : B → A → B} {More : B → Phrases B} {close : TokenKind} {X : Phrases B} {start : List Token} {first now : Region} {b : B} {spot : Spot} (m : Many Item add More close) (tokens : List Token) (at next : ℕ) (last : Region) →
    Stage X start first (many_on m b) (drop at tokens) now → HasNext tokens at close spot → next ≡ at + 1 → is_too_deep now close ≡ false → after now close ≡ last → Stage X start first (done b) (drop next tokens) last
many_close {A = A} {Item = Item} {add = add} {More = More} {close = close} {b = b} m tokens at next last s here there small there_now = kind_read (λ spot. done b) tokens at next last
    (change (kind_then close (λ spot. done b)) s
    (λ ts e rest x. (b, ts, m.nothing b ts, (x.0, x.2 ∙ ap (λ us. x.0 ∷ us) (sym x.4.1), x.3, x.4.0)))
    (λ ts e rest alike x. elim (m.split x.2) as (λ w. WithKind close (λ spot. Done b) ts e rest) [
      | inl d ↦ (x.3.0, rest, sym d.1 ∙ x.3.1, x.3.2, (x.3.3 ∙ d.0, refl))
      | inr g ↦ absurd (no ts g.0 g.1 g.2 alike)
    ]))
    here there small there_now
  where
    no : (ts : List Token) (a : A) (mid : List Token) → Item.is ts a mid → BeginAlike (drop at tokens) ts → ⊥
    no [] a mid x alike = m.some x
    no (t ∷ us) a mid x alike = m.apart x (next_is tokens at t us here alike refl)

-- an inscription begins with no closing brace
abbrev is_head : TokenKind → Bool
is_head (Sign k) = not (nat_eq k 1)
is_head _ = true

abbrev Heads : List Token → Type 0
Heads ts = (t : Token) × (us : List Token) × (ts ≡ t ∷ us) × (is_head t.kind ≡ true)

arc-head : (kind : TokenKind) (a : ArcKind) → arc_of kind ≡ Some a → is_head kind ≡ true
arc-head (Sign k) a h = cc
arc-head (Word k) a h = refl
arc-head (Name s) a h = refl
arc-head (Number n) a h = refl
arc-head (Text s) a h = refl

target-head : (kind : TokenKind) (f : PForm) → target_of kind ≡ Some f → is_head kind ≡ true
target-head (Sign k) a h = cc
target-head (Word k) a h = refl
target-head (Name s) a h = refl
target-head (Number n) a h = refl
target-head (Text s) a h = refl

heads-primary : {ts rest : List Token} {e : PExpr} → IsPrimary ts e rest → Heads ts
heads-primary (IsPrimary.number h) = (_, _, refl, ap is_head h)
heads-primary (IsPrimary.text h) = (_, _, refl, ap is_head h)
heads-primary (IsPrimary.name h) = (_, _, refl, ap is_head h)
heads-primary (IsPrimary.this h) = (_, _, refl, ap is_head h)
heads-primary (IsPrimary.step h u v) = (_, _, refl, ap is_head h)
heads-primary (IsPrimary.tuple h l) = (_, _, refl, ap is_head h)
heads-primary (IsPrimary.list h l) = (_, _, refl, ap is_head h)
heads-primary (IsPrimary.list_with_tail h x c y d) = (_, _, refl, ap is_head h)
heads-primary (IsPrimary.parentheses h x c) = (_, _, refl, ap is_head h)

heads-unary : {ts rest : List Token} {e : PExpr} → IsUnary ts e rest → Heads ts
heads-unary (IsUnary.negative h x) = (_, _, refl, ap is_head h)
heads-unary (IsUnary.primary x) = heads-primary x

heads-expr : {ts rest : List Token} {e : PExpr} → IsExpr ts e rest → Heads ts
heads-expr (IsExpr.sum (IsProduct.product x y) z) = heads-unary x

heads-inscribed : {ts rest : List Token} {f : PInscribed} → IsInscribed ts f rest → Heads ts
heads-inscribed (IsInscribed.plain_arc {t = t} a h) = (_, _, refl, arc-head t.kind _ a)
heads-inscribed (IsInscribed.arc {t = t} a h i x) = (_, _, refl, arc-head t.kind _ a)
heads-inscribed (IsInscribed.guard h x) = (_, _, refl, ap is_head h)
heads-inscribed (IsInscribed.print h i x) = (_, _, refl, ap is_head h)
heads-inscribed (IsInscribed.set h i j x) = (_, _, refl, ap is_head h)
heads-inscribed (IsInscribed.uplink h x) = (_, _, refl, ap is_head h)
heads-inscribed (IsInscribed.creation h i j k) = (_, _, refl, ap is_head h)
heads-inscribed (IsInscribed.downlink {t = t} a h x) = (_, _, refl, target-head t.kind _ a)
heads-inscribed (IsInscribed.equality x h y) = heads-expr x

heads-inscriptions : {notation : ℕ} {ts rest : List Token} {all : List PInscription} → AreInscribed notation ts all rest → Heads ts
heads-inscriptions (AreInscribed.one x) = heads-inscribed x
heads-inscriptions (AreInscribed.several {t = t} second a h c x m) = (_, _, refl, arc-head t.kind _ a)

-- inscriptions
abbrev pub with_more : List PInscription → List PInscription → List PInscription
with_more all more = all ++ more

pub inscriptions-split : (notation : ℕ) {all es : List PInscription} {ts rest : List Token} → AreInscriptions notation all ts es rest → ((es ≡ all) × (rest ≡ ts)) ⊎ Then (AreInscribedUpTo notation) (λ more. AreInscriptions notation (with_more all more)) ts es rest
inscriptions-split notation (AreInscriptions.no_more_inscriptions) = inl (refl, refl)
inscriptions-split notation (AreInscriptions.more_inscriptions x h more) = inr (_, _, (_, _, x, (_, refl, h, refl)), more)

pub inscriptions-on : (notation : ℕ) {ts mid rest : List Token} {is all es : List PInscription} → AreInscribedUpTo notation ts is mid → AreInscriptions notation (with_more all is) mid es rest → AreInscriptions notation all ts es rest
inscriptions-on notation {ts = ts} {mid = mid} {rest = rest} {all = all} {es = es} x more = AreInscriptions.more_inscriptions (subst (λ us. AreInscribed notation ts x.0 us) x.3.1 x.2) x.3.2 (subst (λ is. AreInscriptions notation (with_more all is) mid es rest) x.3.3 more)

pub inscriptions-apart : (notation : ℕ) {t : Token} {us rest : List Token} {is : List PInscription} → AreInscribedUpTo notation (t ∷ us) is rest → t.kind ≡ close_brace → ⊥
inscriptions-apart notation {t = t} x h = let y = heads-inscriptions x.2 in
    let same : y.0 ≡ t = let a = y.2 in cc in
    let no : is_head t.kind ≡ false = ap is_head h in let yes : is_head t.kind ≡ true = ap (λ u. is_head u.kind) (sym same) ∙ y.3 in cc

pub inscriptions-some : (notation : ℕ) {rest : List Token} {is : List PInscription} → AreInscribedUpTo notation [] is rest → ⊥
inscriptions-some notation x = let y = heads-inscriptions x.2 in let e = y.2 in cc

abbrev pub inscriptions : (notation : ℕ) → Many (statement_sort notation) with_more (AreInscriptions notation) close_brace
inscriptions notation = record {
  nothing = λ b ts. AreInscriptions.no_more_inscriptions;
  on = λ x more. inscriptions-on notation x more;
  split = λ x. inscriptions-split notation x;
  apart = λ x h. inscriptions-apart notation x h;
  some = λ x. inscriptions-some notation x;
}

abbrev pub inscriptions_sort : ℕ → Sort (List PInscription)
inscriptions_sort notation = many_on (inscriptions notation) []

-- `trans t { in p: x; }`
abbrev pub transition_inside : ℕ → PName → Sort PTransition
transition_inside notation name = and_then (inscriptions_sort notation) (λ all. done (transition_of name all))

abbrev pub transition_open : ℕ → PName → Sort PTransition
transition_open notation name = kind_then open_brace (λ b. transition_inside notation name)

abbrev pub transition_sort : ℕ → Sort PTransition
transition_sort notation = kind_then trans_word (λ w. name_then (transition_open notation))

pub transition-on : (notation : ℕ) (ts : List Token) (e : PTransition) (rest : List Token) → (transition_sort notation).is ts e rest → IsTransition notation ts e rest
transition-on notation ts e rest x = let n = x.4 in let b = n.5 in let i = b.4 in
    subst (λ us. IsTransition notation us e rest) (sym (x.2 ∙ ap (λ us. x.0 ∷ us) (n.3 ∙ ap (λ us. n.0 ∷ us) b.2)))
    (from_done (λ c r. IsTransition notation (x.0 ∷ n.0 ∷ b.0 ∷ b.1) c r) i.3
    (subst (λ all. IsTransition notation (x.0 ∷ n.0 ∷ b.0 ∷ b.1) (transition_of (name_at n.0.spot n.2) all) i.1) (sym i.2.3.3) (IsTransition.transition x.3 n.4 b.3 (subst (λ us. AreInscriptions notation [] b.1 i.2.0 us) i.2.3.1 i.2.2) i.2.3.2)))

pub transition-only : (notation : ℕ) (ts : List Token) (e : PTransition) (rest : List Token) → IsTransition notation ts e rest → (transition_sort notation).is ts e rest
transition-only notation ts e rest x = by x
  where
    by : {ts rest : List Token} {e : PTransition} → IsTransition notation ts e rest → (transition_sort notation).is ts e rest
    by (IsTransition.transition a b c i h) = (_, _, refl, a, (_, _, _, refl, b, (_, _, refl, c, (_, _, (_, _, i, (_, refl, h, refl)), (refl, refl)))))

pub transition_begun : (notation : ℕ) (tokens : List Token) (at start : ℕ) → IsNextKind tokens at trans_word → start ≡ at + 1 → Stage (IsTransition notation) (drop at tokens) between (name_then (transition_open notation)) (drop start tokens) heading
transition_begun notation tokens at start next there = kind_read (λ w. name_then (transition_open notation)) tokens at start heading (begin (transition_sort notation) (drop at tokens) between (transition-on notation) (λ ts e rest alike x. transition-only notation ts e rest x)) (has_next tokens at next) there refl refl

pub transition_named : (notation : ℕ) (tokens : List Token) (at start after_name : ℕ) (name : PName) → IsNextKind tokens at trans_word → start ≡ at + 1 → IsNextName tokens start name → after_name ≡ start + 1 → Stage (IsTransition notation) (drop at tokens) between (transition_open notation name) (drop after_name tokens) heading
transition_named notation tokens at start after_name name next begun named there = name_read (transition_open notation) tokens start after_name heading name (transition_begun notation tokens at start next begun) named there (λ s. refl) (λ s. refl)

-- the parts of a net
abbrev pub part_sort : ℕ → Sort Part
part_sort notation = record { is = IsNetPart notation; ends = let y = place_sort.ends in (y.0, Part.Place y.1, λ rest. place-on (y.0 ++ rest) y.1 rest (y.2 rest)) }

pub parts-split : (notation : ℕ) {n e : PNet} {ts rest : List Token} → AreParts notation n ts e rest → ((e ≡ n) × (rest ≡ ts)) ⊎ Then (IsNetPart notation) (λ p. AreParts notation (with_part n p)) ts e rest
parts-split notation (AreParts.no_more_parts) = inl (refl, refl)
parts-split notation (AreParts.and_vars {more = more} x rest) = inr (Part.Vars more, _, x, rest)
parts-split notation (AreParts.and_place {place = place} x rest) = inr (Part.Place place, _, x, rest)
parts-split notation (AreParts.and_transition {transition = transition} x rest) = inr (Part.Transition transition, _, x, rest)

pub parts-on : (notation : ℕ) {ts mid rest : List Token} (p : Part) {n e : PNet} → IsNetPart notation ts p mid → AreParts notation (with_part n p) mid e rest → AreParts notation n ts e rest
parts-on notation (Part.Vars more) x rest = AreParts.and_vars x rest
parts-on notation (Part.Place place) x rest = AreParts.and_place x rest
parts-on notation (Part.Transition transition) x rest = AreParts.and_transition x rest

-- the word that a part begins with
pub part-begins : (notation : ℕ) (ts rest : List Token) (p : Part) → IsNetPart notation ts p rest → (t : Token) × (us : List Token) × (ts ≡ t ∷ us) × ((t.kind ≡ var_word) ⊎ ((t.kind ≡ place_word) ⊎ (t.kind ≡ trans_word)))
part-begins notation ts rest (Part.Vars more) x = let y = vars-only ts more rest x in (y.0, y.1, y.2, inl y.3)
part-begins notation ts rest (Part.Place place) x = let y = place-only ts place rest x in (y.0, y.1, y.2, inr (inl y.3))
part-begins notation ts rest (Part.Transition transition) x = let y = transition-only notation ts transition rest x in (y.0, y.1, y.2, inr (inr y.3))

pub parts-apart : (notation : ℕ) (t : Token) (us rest : List Token) (p : Part) → IsNetPart notation (t ∷ us) p rest → t.kind ≡ close_brace → ⊥
parts-apart notation t us rest p x h = let y = part-begins notation (t ∷ us) rest p x in
    let same : t ≡ y.0 = let e = y.2 in cc in
    elim y.3 as (λ w. ⊥) [
      | inl e ↦ tell_apart close_brace var_word (sym h ∙ ap (λ u. u.kind) same ∙ e) (λ d. omega (arith, d))
      | inr f ↦ elim f as (λ w. ⊥) [
        | inl e ↦ tell_apart close_brace place_word (sym h ∙ ap (λ u. u.kind) same ∙ e) (λ d. omega (arith, d))
        | inr e ↦ tell_apart close_brace trans_word (sym h ∙ ap (λ u. u.kind) same ∙ e) (λ d. omega (arith, d))
      ]
    ]

pub parts-some : (notation : ℕ) (rest : List Token) (p : Part) → IsNetPart notation [] p rest → ⊥
parts-some notation rest p x = let y = part-begins notation [] rest p x in let e = y.2 in cc

abbrev pub parts : (notation : ℕ) → Many (part_sort notation) with_part (AreParts notation) close_brace
parts notation = record {
  nothing = λ b ts. AreParts.no_more_parts;
  on = λ {a = a} x more. parts-on notation a x more;
  split = λ x. parts-split notation x;
  apart = λ {t = t} {us = us} {rest = rest} {a = a} x h. parts-apart notation t us rest a x h;
  some = λ {rest = rest} {a = a} x. parts-some notation rest a x;
}

pub part_none : (notation : ℕ) (tokens : List Token) (at : ℕ) → at ≤ length tokens → IsNotNextKind tokens at var_word → IsNotNextKind tokens at place_word → IsNotNextKind tokens at trans_word → Fails (IsNetPart notation) (drop at tokens) between (length tokens) (Fault.Stopped at)
part_none notation tokens at inside a b c = stuck (part_sort notation) tokens at (begin (part_sort notation) (drop at tokens) between (λ ts e rest x. x) (λ ts e rest alike x. x)) inside (λ ts p rest alike x.
    let y = part-begins notation ts rest p x in let n = alike-cons (drop at tokens) y.0 y.1 (subst (λ us. BeginAlike (drop at tokens) us) y.2 alike) in
    elim y.3 as (λ w. ⊥) [ inl e ↦ a y.0 n.0 n.1 e | inr f ↦ elim f as (λ w. ⊥) [ inl e ↦ b y.0 n.0 n.1 e | inr e ↦ c y.0 n.0 n.1 e ] ])

-- `net n { .. }`
abbrev pub net_inside : ℕ → PName → Sort PNet
net_inside notation name = many_on (parts notation) (plain_net_of name [] [] [])

abbrev pub net_open : ℕ → PName → Sort PNet
net_open notation name = kind_then open_brace (λ b. net_inside notation name)

abbrev pub net_sort : ℕ → Sort PNet
net_sort notation = kind_then net_word (λ w. name_then (net_open notation))

pub net-on : (notation : ℕ) (ts : List Token) (e : PNet) (rest : List Token) → (net_sort notation).is ts e rest → IsNet notation ts e rest
net-on notation ts e rest x = let n = x.4 in let b = n.5 in let i = b.4 in
    subst (λ us. IsNet notation us e rest) (sym (x.2 ∙ ap (λ us. x.0 ∷ us) (n.3 ∙ ap (λ us. n.0 ∷ us) b.2)))
    (subst (λ m. IsNet notation (x.0 ∷ n.0 ∷ b.0 ∷ b.1) m rest) (sym i.3.3) (IsNet.net x.3 n.4 b.3 (subst (λ us. AreParts notation (plain_net_of (name_at n.0.spot n.2) [] [] []) b.1 i.0 us) i.3.1 i.2) i.3.2))

pub net-only : (notation : ℕ) (ts : List Token) (e : PNet) (rest : List Token) → IsNet notation ts e rest → (net_sort notation).is ts e rest
net-only notation ts e rest x = by x
  where
    by : {ts rest : List Token} {e : PNet} → IsNet notation ts e rest → (net_sort notation).is ts e rest
    by (IsNet.net a b c i h) = (_, _, refl, a, (_, _, _, refl, b, (_, _, refl, c, (_, _, i, (_, refl, h, refl)))))

pub net_begun : (notation : ℕ) (tokens : List Token) (at start : ℕ) → IsNextKind tokens at net_word → start ≡ at + 1 → Stage (IsNet notation) (drop at tokens) between (name_then (net_open notation)) (drop start tokens) heading
net_begun notation tokens at start next there = kind_read (λ w. name_then (net_open notation)) tokens at start heading (begin (net_sort notation) (drop at tokens) between (net-on notation) (λ ts e rest alike x. net-only notation ts e rest x)) (has_next tokens at next) there refl refl

pub net_named : (notation : ℕ) (tokens : List Token) (at start after_name : ℕ) (name : PName) → IsNextKind tokens at net_word → start ≡ at + 1 → IsNextName tokens start name → after_name ≡ start + 1 → Stage (IsNet notation) (drop at tokens) between (net_open notation name) (drop after_name tokens) heading
net_named notation tokens at start after_name name next begun named there = name_read (net_open notation) tokens start after_name heading name (net_begun notation tokens at start next begun) named there (λ s. refl) (λ s. refl)

-- channels and nets
abbrev pub item_sort : ℕ → Sort Item
item_sort notation = record { is = IsItem notation; ends = let y = channel_sort.ends in (y.0, Item.Channel y.1, λ rest. channel-on (y.0 ++ rest) y.1 rest (y.2 rest)) }

pub item-begins : (notation : ℕ) (ts rest : List Token) (i : Item) → IsItem notation ts i rest → (t : Token) × (us : List Token) × (ts ≡ t ∷ us) × ((t.kind ≡ channel_word) ⊎ (t.kind ≡ net_word))
item-begins notation ts rest (Item.Channel channel) x = let y = channel-only ts channel rest x in (y.0, y.1, y.2, inl y.3)
item-begins notation ts rest (Item.Net net) x = let y = net-only notation ts net rest x in (y.0, y.1, y.2, inr y.3)

pub item_none : (notation : ℕ) (tokens : List Token) (at : ℕ) → at ≤ length tokens → IsNotNextKind tokens at channel_word → IsNotNextKind tokens at net_word → Fails (IsItem notation) (drop at tokens) between (length tokens) (Fault.Stopped at)
item_none notation tokens at inside a b = stuck (item_sort notation) tokens at (begin (item_sort notation) (drop at tokens) between (λ ts e rest x. x) (λ ts e rest alike x. x)) inside (λ ts p rest alike x.
    let y = item-begins notation ts rest p x in let n = alike-cons (drop at tokens) y.0 y.1 (subst (λ us. BeginAlike (drop at tokens) us) y.2 alike) in
    elim y.3 as (λ w. ⊥) [ inl e ↦ a y.0 n.0 n.1 e | inr e ↦ b y.0 n.0 n.1 e ])

-- a part by its first word, and an item
abbrev pub part_of : {A : Type 0} → Sort A → (A → Part) → Sort Part
part_of X make = and_then X (λ a. done (make a))

abbrev pub many_vars : Sort (List PVar)
many_vars = record { is = AreVars; ends = (vars_sort.ends.0, vars_sort.ends.1, λ rest. vars-on (vars_sort.ends.0 ++ rest) vars_sort.ends.1 rest (vars_sort.ends.2 rest)) }

abbrev pub one_place : Sort PPlace
one_place = record { is = IsPlace; ends = (place_sort.ends.0, place_sort.ends.1, λ rest. place-on (place_sort.ends.0 ++ rest) place_sort.ends.1 rest (place_sort.ends.2 rest)) }

abbrev pub one_transition : ℕ → Sort PTransition
one_transition notation = record { is = IsTransition notation; ends = let y = (transition_sort notation).ends in (y.0, y.1, λ rest. transition-on notation (y.0 ++ rest) y.1 rest (y.2 rest)) }

abbrev pub one_channel : Sort PChannel
one_channel = record { is = IsChannel; ends = (channel_sort.ends.0, channel_sort.ends.1, λ rest. channel-on (channel_sort.ends.0 ++ rest) channel_sort.ends.1 rest (channel_sort.ends.2 rest)) }

abbrev pub one_net : ℕ → Sort PNet
one_net notation = record { is = IsNet notation; ends = let y = (net_sort notation).ends in (y.0, y.1, λ rest. net-on notation (y.0 ++ rest) y.1 rest (y.2 rest)) }

first-word : {k j : TokenKind} {spot : Spot} (tokens : List Token) (at : ℕ) {ts : List Token} (t : Token) (us : List Token) → HasNext tokens at k spot → BeginAlike (drop at tokens) ts → ts ≡ t ∷ us → t.kind ≡ j → k ≡ j
first-word tokens at t us here alike is kind = sym (next_is tokens at t us here alike is) ∙ kind

pub part_vars : (notation : ℕ) {spot : Spot} (tokens : List Token) (at : ℕ) → HasNext tokens at var_word spot → Stage (IsNetPart notation) (drop at tokens) between (part_of many_vars Part.Vars) (drop at tokens) between
part_vars notation tokens at here = begin (part_of many_vars Part.Vars) (drop at tokens) between
    (λ ts e rest x. from_done (λ p r. IsNetPart notation ts p r) x.3 x.2) (λ ts e rest alike x. by e ts rest alike x)
  where
    by : (e : Part) (ts rest : List Token) → BeginAlike (drop at tokens) ts → IsNetPart notation ts e rest → (part_of many_vars Part.Vars).is ts e rest
    by (Part.Vars vs) ts rest alike x = (vs, rest, x, (refl, refl))
    by (Part.Place p) ts rest alike x = let y = place-only ts p rest x in absurd (tell_apart var_word place_word (first-word tokens at y.0 y.1 here alike y.2 y.3) (λ d. omega (arith, d)))
    by (Part.Transition p) ts rest alike x = let y = transition-only notation ts p rest x in absurd (tell_apart var_word trans_word (first-word tokens at y.0 y.1 here alike y.2 y.3) (λ d. omega (arith, d)))

pub part_place : (notation : ℕ) {spot : Spot} (tokens : List Token) (at : ℕ) → HasNext tokens at place_word spot → Stage (IsNetPart notation) (drop at tokens) between (part_of one_place Part.Place) (drop at tokens) between
part_place notation tokens at here = begin (part_of one_place Part.Place) (drop at tokens) between
    (λ ts e rest x. from_done (λ p r. IsNetPart notation ts p r) x.3 x.2) (λ ts e rest alike x. by e ts rest alike x)
  where
    by : (e : Part) (ts rest : List Token) → BeginAlike (drop at tokens) ts → IsNetPart notation ts e rest → (part_of one_place Part.Place).is ts e rest
    by (Part.Place vs) ts rest alike x = (vs, rest, x, (refl, refl))
    by (Part.Vars p) ts rest alike x = let y = vars-only ts p rest x in absurd (tell_apart place_word var_word (first-word tokens at y.0 y.1 here alike y.2 y.3) (λ d. omega (arith, d)))
    by (Part.Transition p) ts rest alike x = let y = transition-only notation ts p rest x in absurd (tell_apart place_word trans_word (first-word tokens at y.0 y.1 here alike y.2 y.3) (λ d. omega (arith, d)))

pub part_transition : (notation : ℕ) {spot : Spot} (tokens : List Token) (at : ℕ) → HasNext tokens at trans_word spot → Stage (IsNetPart notation) (drop at tokens) between (part_of (one_transition notation) Part.Transition) (drop at tokens) between
part_transition notation tokens at here = begin (part_of (one_transition notation) Part.Transition) (drop at tokens) between
    (λ ts e rest x. from_done (λ p r. IsNetPart notation ts p r) x.3 x.2) (λ ts e rest alike x. by e ts rest alike x)
  where
    by : (e : Part) (ts rest : List Token) → BeginAlike (drop at tokens) ts → IsNetPart notation ts e rest → (part_of (one_transition notation) Part.Transition).is ts e rest
    by (Part.Transition vs) ts rest alike x = (vs, rest, x, (refl, refl))
    by (Part.Vars p) ts rest alike x = let y = vars-only ts p rest x in absurd (tell_apart trans_word var_word (first-word tokens at y.0 y.1 here alike y.2 y.3) (λ d. omega (arith, d)))
    by (Part.Place p) ts rest alike x = let y = place-only ts p rest x in absurd (tell_apart trans_word place_word (first-word tokens at y.0 y.1 here alike y.2 y.3) (λ d. omega (arith, d)))

abbrev pub item_of : {A : Type 0} → Sort A → (A → Item) → Sort Item
item_of X make = and_then X (λ a. done (make a))

pub item_channel : (notation : ℕ) {spot : Spot} (tokens : List Token) (at : ℕ) → HasNext tokens at channel_word spot → Stage (IsItem notation) (drop at tokens) between (item_of one_channel Item.Channel) (drop at tokens) between
item_channel notation tokens at here = begin (item_of one_channel Item.Channel) (drop at tokens) between
    (λ ts e rest x. from_done (λ p r. IsItem notation ts p r) x.3 x.2) (λ ts e rest alike x. by e ts rest alike x)
  where
    by : (e : Item) (ts rest : List Token) → BeginAlike (drop at tokens) ts → IsItem notation ts e rest → (item_of one_channel Item.Channel).is ts e rest
    by (Item.Channel vs) ts rest alike x = (vs, rest, x, (refl, refl))
    by (Item.Net p) ts rest alike x = let y = net-only notation ts p rest x in absurd (tell_apart channel_word net_word (first-word tokens at y.0 y.1 here alike y.2 y.3) (λ d. omega (arith, d)))

pub item_net : (notation : ℕ) {spot : Spot} (tokens : List Token) (at : ℕ) → HasNext tokens at net_word spot → Stage (IsItem notation) (drop at tokens) between (item_of (one_net notation) Item.Net) (drop at tokens) between
item_net notation tokens at here = begin (item_of (one_net notation) Item.Net) (drop at tokens) between
    (λ ts e rest x. from_done (λ p r. IsItem notation ts p r) x.3 x.2) (λ ts e rest alike x. by e ts rest alike x)
  where
    by : (e : Item) (ts rest : List Token) → BeginAlike (drop at tokens) ts → IsItem notation ts e rest → (item_of (one_net notation) Item.Net).is ts e rest
    by (Item.Net vs) ts rest alike x = (vs, rest, x, (refl, refl))
    by (Item.Channel p) ts rest alike x = let y = channel-only ts p rest x in absurd (tell_apart net_word channel_word (first-word tokens at y.0 y.1 here alike y.2 y.3) (λ d. omega (arith, d)))
