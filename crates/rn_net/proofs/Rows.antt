-- Phrases between which commas stand, up to a closing token, the first having been taken.
use Rattle.rn_net.proofs.Names.{◌≡◌, ℕ, ◌+◌, ◌-◌, ◌<◌, ◌≤◌, ◌⊎◌, inl, inr, true, false, List, [], ◌∷◌, ◌++◌, drop, refl, sym, ◌∙◌, ap, subst, append_assoc, arith, nat_le, nat_tests, Spot, Token, TokenKind, Sign, Phrases, Then, Done, BeginAlike, Sort, done, comma, Takes, IsClose, IsNotNextKind, Region, is_too_deep, after, declaring, Stage, HasNext, any, and_then, alike-cons}
use Rattle.rn_net.proofs.Sorts.{WithKind, kind_then, kind_read, next_is}
use Rattle.rn_net.proofs.Steps.{begin, change}

pub record Row {A : Type 0} (Item : Sort A) (Are : Phrases (List A)) (More : List A → Phrases (List A)) : Type 0 where
  pub nothing : (all : List A) (ts : List Token) → More all ts all ts
  pub on : {t : Token} {us mid rest : List Token} {all es : List A} {e : A} → t.kind ≡ comma → Item.is us e mid → More (all ++ e ∷ []) mid es rest → More all (t ∷ us) es rest
  pub split : {all es : List A} {ts rest : List Token} → More all ts es rest →
      ((es ≡ all) × (rest ≡ ts)) ⊎ ((t : Token) × (us : List Token) × (ts ≡ t ∷ us) × (t.kind ≡ comma) × Then Item.is (λ e. More (all ++ e ∷ [])) us es rest)
  pub join : {ts mid rest : List Token} {es : List A} {e : A} → Item.is ts e mid → More (e ∷ []) mid es rest → Are ts es rest
  pub part : {ts rest : List Token} {es : List A} → Are ts es rest → Then Item.is (λ e. More (e ∷ [])) ts es rest

-- more items and the closing token
abbrev pub row_on : {A : Type 0} {Item : Sort A} {Are : Phrases (List A)} {More : List A → Phrases (List A)} → Row Item Are More → TokenKind → List A → Sort (List A)
row_on {More = More} r close all = record {
  is = Then (More all) (λ es. Takes close es);
  ends = (any close ∷ [], all, λ rest. (all, any close ∷ rest, r.nothing all (any close ∷ rest), (any close, refl, refl, refl)));
}

-- one item or more and the closing token
abbrev pub row_up_to : {A : Type 0} {Item : Sort A} {Are : Phrases (List A)} {More : List A → Phrases (List A)} → Row Item Are More → TokenKind → Sort (List A)
row_up_to {Item = Item} {Are = Are} r close = record {
  is = Then Are (λ es. Takes close es);
  ends = (
    Item.ends.0 ++ any close ∷ [],
    Item.ends.1 ∷ [],
    λ rest. (
      Item.ends.1 ∷ [],
      any close ∷ rest,
      subst (λ us. Are us (Item.ends.1 ∷ []) (any close ∷ rest)) (sym (append_assoc Item.ends.0 (any close ∷ []) rest)) (r.join (Item.ends.2 (any close ∷ rest)) (r.nothing (Item.ends.1 ∷ []) (any close ∷ rest))),
      (any close, refl, refl, refl),
    ),
  );
}

pub row_first : {A : Type 0} {Item : Sort A} {Are : Phrases (List A)} {More : List A → Phrases (List A)} (r : Row Item Are More) (close : TokenKind) (start : List Token) (first : Region) →
    Stage (row_up_to r close).is start first (and_then Item (λ e. row_on r close (e ∷ []))) start first
row_first {Item = Item} r close start first = begin (and_then Item (λ e. row_on r close (e ∷ []))) start first
    (λ ts e rest x. (x.3.0, x.3.1, r.join x.2 x.3.2, x.3.3))
    (λ ts e rest alike x. let p = r.part x.2 in (p.0, p.1, p.2, (x.0, x.1, p.3, x.3)))

-- a comma is next
pub row_comma_from : {A : Type 0} {Item : Sort A} {Are : Phrases (List A)} {More : List A → Phrases (List A)} {X : Phrases (List A)} {start : List Token} {first now : Region} {spot : Spot} {all : List A}
    (r : Row Item Are More) (close : TokenKind) (tokens : List Token) (at next : ℕ) (last : Region) → (close ≡ comma → ⊥) →
    Stage X start first (row_on r close all) (drop at tokens) now → HasNext tokens at comma spot → next ≡ at + 1 → is_too_deep now comma ≡ false → after now comma ≡ last →
    Stage X start first (and_then Item (λ e. row_on r close (all ++ e ∷ []))) (drop next tokens) last
row_comma_from {Item = Item} {More = More} {all = all} r close tokens at next last other s here there small there_now =
    kind_read (λ spot. and_then Item (λ e. row_on r close (all ++ e ∷ []))) tokens at next last
    (change (kind_then comma (λ spot. and_then Item (λ e. row_on r close (all ++ e ∷ [])))) s
    (λ ts e rest x. (x.4.3.0, x.4.3.1, subst (λ us. More all us x.4.3.0 x.4.3.1) (sym x.2) (r.on x.3 x.4.2 x.4.3.2), x.4.3.3))
    (λ ts e rest alike x. elim (r.split x.2) as (λ w. WithKind comma (λ spot. (and_then Item (λ e. row_on r close (all ++ e ∷ []))).is) ts e rest) [
      | inl d ↦ absurd (other (sym x.3.2 ∙ next_is tokens at x.3.0 rest here alike (sym d.1 ∙ x.3.1)))
      | inr g ↦ (g.0, g.1, g.2, g.3, (g.4.0, g.4.1, g.4.2, (x.0, x.1, g.4.3, x.3)))
    ]))
    here there small there_now

pub row_comma : {A : Type 0} {Item : Sort A} {Are : Phrases (List A)} {More : List A → Phrases (List A)} {X : Phrases (List A)} {start : List Token} {first : Region} {n : ℕ} {spot : Spot} {all : List A}
    (r : Row Item Are More) (close : TokenKind) (tokens : List Token) (at next : ℕ) → (close ≡ comma → ⊥) →
    Stage X start first (row_on r close all) (drop at tokens) (declaring n) → HasNext tokens at comma spot → next ≡ at + 1 →
    Stage X start first (and_then Item (λ e. row_on r close (all ++ e ∷ []))) (drop next tokens) (declaring n)
row_comma {n = n} r close tokens at next other s here there = row_comma_from r close tokens at next (declaring n) other s here there refl refl

-- no comma is next
pub row_close : {A : Type 0} {Item : Sort A} {Are : Phrases (List A)} {More : List A → Phrases (List A)} {X : Phrases (List A)} {start : List Token} {first now : Region} {all : List A}
    (r : Row Item Are More) (close : TokenKind) (tokens : List Token) (at : ℕ) →
    Stage X start first (row_on r close all) (drop at tokens) now → IsNotNextKind tokens at comma →
    Stage X start first (kind_then close (λ spot. done all)) (drop at tokens) now
row_close {More = More} {all = all} r close tokens at s other =
    change (kind_then close (λ spot. done all)) s
    (λ ts e rest x. (all, ts, r.nothing all ts, (x.0, x.2 ∙ ap (λ us. x.0 ∷ us) (sym x.4.1), x.3, x.4.0)))
    (λ ts e rest alike x. elim (r.split x.2) as (λ w. WithKind close (λ spot. Done all) ts e rest) [
      | inl d ↦ (x.3.0, rest, sym d.1 ∙ x.3.1, x.3.2, (x.3.3 ∙ d.0, refl))
      | inr g ↦ absurd (let next = alike-cons (drop at tokens) g.0 g.1 (subst (λ us. BeginAlike (drop at tokens) us) g.2 alike) in other g.0 next.0 next.1 g.3)
    ])

-- a closing bracket in a declaration
pub close_small : (close n : ℕ) → IsClose close → is_too_deep (declaring n) (Sign close) ≡ false
close_small close n is = elim is as (λ w. is_too_deep (declaring n) (Sign close) ≡ false) [ inl h ↦ subst (λ k. is_too_deep (declaring n) (Sign k) ≡ false) (sym h) refl | inr h ↦ subst (λ k. is_too_deep (declaring n) (Sign k) ≡ false) (sym h) refl ]

pub one-less : (n k : ℕ) → after (declaring (n + 1)) (Sign k) ≡ declaring ((n + 1) - 1) → after (declaring (n + 1)) (Sign k) ≡ declaring n
one-less n k h = h ∙ ap declaring (omega arith)

pub close_after : (close n : ℕ) → IsClose close → after (declaring (n + 1)) (Sign close) ≡ declaring n
close_after close n is = elim is as (λ w. after (declaring (n + 1)) (Sign close) ≡ declaring n) [
  | inl h ↦ subst (λ k. after (declaring (n + 1)) (Sign k) ≡ declaring n) (sym h) (one-less n 3 refl)
  | inr h ↦ subst (λ k. after (declaring (n + 1)) (Sign k) ≡ declaring n) (sym h) (one-less n 5 refl)
]

pub close-comma : (close : ℕ) → IsClose close → Sign close ≡ comma → ⊥
close-comma close is h = elim is as (λ w. ⊥) [ inl e ↦ (let g : Sign 3 ≡ Sign 6 = ap Sign (sym e) ∙ h in cc) | inr e ↦ (let g : Sign 5 ≡ Sign 6 = ap Sign (sym e) ∙ h in cc) ]

pub opening_small : (depth inside levels : ℕ) → levels ≡ inside + 1 → levels + depth ≡ 64 → nat_le 64 depth ≡ false
opening_small depth inside levels some fits = let h : depth < 64 = omega arith in grind (arith, nat_tests)

pub opening_deep : (depth levels : ℕ) → levels ≡ 0 → levels + depth ≡ 64 → nat_le 64 depth ≡ true
opening_deep depth levels none fits = let h : 64 ≤ depth = omega arith in grind (arith, nat_tests)
