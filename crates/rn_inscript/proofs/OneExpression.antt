-- A list of tokens is one expression at most.
use Rattle.rn_inscript.proofs.Names.{◌≡◌, ℕ, ◌+◌, ◌<◌, inl, inr, true, false, List, ◌∷◌, refl, sym, ◌∙◌, ap, subst, arith, Option, Some, codes, Token, TokenKind, Sign, PExpr, minus, close_brace, colon, IsExpr, IsTerms, IsProduct, IsFactors, IsUnary, IsPrimary, IsListed, IsExprs, IsMoreExprs, at_spot, Phrases, Ends, strength}
use Rattle.rn_inscript.specs.declared.exprs.PForm.TheVariants as F
use Rattle.rn_inscript.proofs.Chains.{Chain, Joined, chain_follow}
use Rattle.rn_inscript.proofs.OneSign.{sign-some}
use Rattle.rn_inscript.proofs.ListReading.{list_end-follow}
use Rattle.rn_inscript.proofs.ExpressionPhrases.{products, sums, lists}
use Rattle.rn_inscript.proofs.OperandPhrases.{begins_primary, begins_expr, primary-begins, number-only, text-only, this-only, name-only, paren-only, bracket-only, brace-only, exprs-begin, listed-only, minus-only, no-minus}

-- both phrases are one, and the same comes after them
abbrev pub Same : {A : Type 0} → A → A → List Token → List Token → Type 0
Same a b r q = (a ≡ b) × (r ≡ q)

-- where a chain ends, no sign that goes on with it is next
pub same-end : {A B S : Type 0} {n : ℕ} {Item : Phrases B} {sort : TokenKind → Option S} {add : S → A → B → A} {Tail : A → Phrases A} {a c : A} {ts q : List Token} →
    Chain n Item sort add Tail → Tail a ts c q → Ends n ts → Same a c ts q
same-end {n = n} chain y e = elim (chain.split y) [
  | inl d ↦ (sym d.0, sym d.1)
  | inr g ↦ absurd (let small : Ends n (g.0 ∷ g.1) = rw g.3 at e in let h : strength g.0.kind ≡ n = chain.binds g.0.kind g.2 g.4 in omega (arith, small, h))
]

-- a chain that goes on with a sign is one, if the next item is and what follows it
pub same-more : {A B S : Type 0} {n : ℕ} {Item : Phrases B} {sort : TokenKind → Option S} {add : S → A → B → A} {Tail : A → Phrases A} {t : Token} {us mid r q : List Token} {op : S} {a e c : A} {b : B} →
    Chain n Item sort add Tail → sort t.kind ≡ Some op → Tail (add op a b) mid e r → Tail a (t ∷ us) c q → Ends n r → Ends n q →
    ((left : List Token) (d : B) → Item us d left → Ends (n + 1) mid → Ends (n + 1) left → Same b d mid left) → (Tail (add op a b) mid c q → Same e c r q) → Same e c r q
same-more {n = n} {t = t} {us = us} {mid = mid} {op = op} chain is m y e f item more = elim (chain.split y) [
  | inl d ↦ absurd (let small : Ends n (t ∷ us) = rw d.1 at f in let h : strength t.kind ≡ n = chain.binds t.kind op is in omega (arith, small, h))
  | inr g ↦
      let same : g.1 ≡ us = let h = g.3 in cc in let sign : g.2 ≡ op = let h = g.3 in let k = g.4 in cc in
      let s = item g.5.1 g.5.0 (rw same at g.5.2) (chain_follow chain _ mid _ _ e m) (chain_follow chain _ g.5.1 _ _ f g.5.3) in more (rw (s.1, s.0, ← sign) g.5.3)
]

-- a chain is one, if its first item is and what follows it
pub same-join : {A B S : Type 0} {n : ℕ} {X : Phrases A} {Item : Phrases B} {sort : TokenKind → Option S} {add : S → A → B → A} {Tail : A → Phrases A} {one : B → A} {ts mid r q : List Token} {e c : A} {b : B} →
    Joined n X Item sort add Tail one → Tail (one b) mid e r → X ts c q → Ends n r → Ends n q →
    ((left : List Token) (d : B) → Item ts d left → Ends (n + 1) mid → Ends (n + 1) left → Same b d mid left) → (Tail (one b) mid c q → Same e c r q) → Same e c r q
same-join {mid = mid} j m y e f item more =
    let p = j.part y in let s = item p.1 p.0 p.2 (chain_follow j.chain _ mid _ _ e m) (chain_follow j.chain _ p.1 _ _ f p.3) in more (rw (s.1, s.0) p.3)

pub ends-sign : (m k : ℕ) (u : Token) (us : List Token) → u.kind ≡ Sign k → strength (Sign k) < m → Ends m (u ∷ us)
ends-sign m k u us is small = subst (λ kind. strength kind < m) (sym is) small

closed-by : (k : ℕ) → begins_expr (Sign k) ≡ false → {ts mid rest : List Token} {u : Token} {es : List PExpr} → IsExprs ts es mid → ts ≡ u ∷ rest → u.kind ≡ Sign k → ⊥
closed-by k none {mid = mid} {u = u} {es = es} x is c = let yes : begins_expr u.kind ≡ true = exprs-begin (subst (λ us. IsExprs us es mid) is x) in let no : begins_expr u.kind ≡ false = ap begins_expr c ∙ none in cc

no-begin : {ts r : List Token} {a : PExpr} → IsPrimary ts a r → (t : Token) (us : List Token) → ts ≡ t ∷ us → t.kind ≡ minus → ⊥
no-begin {r = r} {a = a} x t us is h = let yes : begins_primary t.kind ≡ true = primary-begins (subst (λ vs. IsPrimary vs a r) is x) in let no : begins_primary t.kind ≡ false = ap begins_primary h in cc

mutual
  pub one-expr : {ts r q : List Token} {a b : PExpr} → IsExpr ts a r → IsExpr ts b q → Ends 4 r → Ends 4 q → Same a b r q
  one-expr (IsExpr.sum x m) y e f = same-join sums m y e f (λ left d z g h. one-product x z g h) (λ z. one-terms m z e f)

  one-terms : {a b c : PExpr} {ts r q : List Token} → IsTerms a ts b r → IsTerms a ts c q → Ends 4 r → Ends 4 q → Same b c r q
  one-terms (IsTerms.no_more_terms) y e f = same-end sums.chain y e
  one-terms (IsTerms.more_terms is x m) y e f = same-more sums.chain is m y e f (λ left d z g h. one-product x z g h) (λ z. one-terms m z e f)

  one-product : {ts r q : List Token} {a b : PExpr} → IsProduct ts a r → IsProduct ts b q → Ends 5 r → Ends 5 q → Same a b r q
  one-product (IsProduct.product x m) y e f = same-join products m y e f (λ left d z g h. one-unary x z g h) (λ z. one-factors m z e f)

  one-factors : {a b c : PExpr} {ts r q : List Token} → IsFactors a ts b r → IsFactors a ts c q → Ends 5 r → Ends 5 q → Same b c r q
  one-factors (IsFactors.no_more_factors) y e f = same-end products.chain y e
  one-factors (IsFactors.more_factors is x m) y e f = same-more products.chain is m y e f (λ left d z g h. one-unary x z g h) (λ z. one-factors m z e f)

  one-unary : {ts r q : List Token} {a b : PExpr} → IsUnary ts a r → IsUnary ts b q → Ends 6 r → Ends 6 q → Same a b r q
  one-unary (IsUnary.negative {t = t} h x) y e f =
      let p = minus-only h y in let s = one-unary x p.2 e (subst (Ends 6) p.3.1 f) in
      (ap (λ z. at_spot t.spot (F.Neg z)) s.0 ∙ sym p.3.0, s.1 ∙ sym p.3.1)
  one-unary (IsUnary.primary x) y e f = one-primary x (no-minus (λ t us is h. no-begin x t us is h) y) e f

  one-primary : {ts r q : List Token} {a b : PExpr} → IsPrimary ts a r → IsPrimary ts b q → Ends 6 r → Ends 6 q → Same a b r q
  one-primary (IsPrimary.number {n = n} h) y e f = let d = number-only n h y in (sym d.0, sym d.1)
  one-primary (IsPrimary.text {s = s} h) y e f = let d = text-only s h y in (sym d.0, sym d.1)
  one-primary (IsPrimary.this h) y e f = let d = this-only h y in (sym d.0, sym d.1)
  one-primary (IsPrimary.name {s = s} h) y e f = elim (name-only s h y) [
    | inl d ↦ (sym d.0, sym d.1)
    | inr z ↦ absurd (let w = z.1 in let small : Ends 6 (w.0 ∷ w.1) = subst (Ends 6) w.2 e in let strong : strength w.0.kind ≡ 6 = ap strength w.3 in omega (arith, small, strong))
  ]
  one-primary (IsPrimary.step {u = u} h p q) y e f = elim (name-only (codes "step") h y) [
    | inl d ↦ absurd (let small : strength u.kind < 6 = subst (Ends 6) d.1 f in let strong : strength u.kind ≡ 6 = ap strength p in omega (arith, small, strong))
    | inr z ↦ let w = z.1 in (sym w.4.3, let a = w.2 in let b = w.4.1 in cc)
  ]
  one-primary (IsPrimary.tuple {t = t} h l) y e f =
      let p = bracket-only h y in let s = one-listed 3 refl refl l p.2 in
      (ap (λ z. at_spot t.spot (F.Tuple z)) s.0 ∙ sym p.3.0, s.1 ∙ sym p.3.1)
  one-primary {q = q} {b = b} (IsPrimary.list {t = t} h (IsListed.nothing {u = u} {rest = rest} c)) y e f = elim (brace-only h y) [
    | inl z ↦ (sym z.3, let a = z.1 in cc)
    | inr z ↦ absurd (let yes : begins_expr u.kind ≡ true = exprs-begin z.2 in let no : begins_expr u.kind ≡ false = ap begins_expr c in cc)
  ]
  one-primary {q = q} {b = b} (IsPrimary.list {t = t} h (IsListed.some {u = u} {rest = rest} {es = es} x c)) y e f = elim (brace-only h y) [
    | inl z ↦ absurd (closed-by 1 refl x z.1 z.2)
    | inr z ↦ let s = one-exprs x z.2 (ends-sign 3 1 u rest c (omega arith)) (list_end-follow t.spot z.0 _ _ _ z.3) in elim z.3 [
      | inl w ↦ (ap (λ k. at_spot t.spot (F.List k)) s.0 ∙ sym w.3, let a = s.1 in let b = w.1 in cc)
      | inr w ↦ absurd (let a : u ≡ w.0 = let g = s.1 in let k = w.2 in cc in let d : u.kind ≡ colon = ap (λ v. v.kind) a ∙ w.3 in let g = c in cc)
    ]
  ]
  one-primary {q = q} {b = b} (IsPrimary.list_with_tail {t = t} {u = u} {v = v} {us = us} {rest = rest} {es = es} {e = tail} h x c y d) z e f = elim (brace-only h z) [
    | inl w ↦ absurd (closed-by 1 refl x w.1 w.2)
    | inr w ↦ let s = one-exprs x w.2 (ends-sign 3 8 u us c (omega arith)) (list_end-follow t.spot w.0 _ _ _ w.3) in elim w.3 [
      | inl k ↦ absurd (let a : u ≡ k.0 = let g = s.1 in let l = k.1 in cc in let m : u.kind ≡ close_brace = ap (λ n. n.kind) a ∙ k.2 in let g = c in cc)
      | inr k ↦ let same : k.1 ≡ us = let g = s.1 in let l = k.2 in cc in
          let i = one-expr y (subst (λ l. IsExpr l k.4.0 k.4.1) same k.4.2) (ends-sign 4 1 v rest d (omega arith)) (subst (Ends 4) (sym k.4.3.1) (ends-sign 4 1 k.4.3.0 q k.4.3.2 (omega arith))) in
          (ap (λ l. at_spot t.spot (F.Cons l tail)) s.0 ∙ ap (λ l. at_spot t.spot (F.Cons w.0 l)) i.0 ∙ sym k.4.3.3, let g = i.1 in let l = k.4.3.1 in cc)
    ]
  ]
  one-primary {q = q} (IsPrimary.parentheses {u = u} {rest = rest} h x c) y e f =
      let p = paren-only h y in let s = one-expr x p.2 (ends-sign 4 5 u rest c (omega arith)) (subst (Ends 4) (sym p.3.1) (ends-sign 4 5 p.3.0 q p.3.2 (omega arith))) in
      (s.0 ∙ sym p.3.3, let g = s.1 in let l = p.3.1 in cc)

  pub one-listed : {ts r q : List Token} {a b : List PExpr} (k : ℕ) → strength (Sign k) ≡ 0 → begins_expr (Sign k) ≡ false → IsListed (Sign k) ts a r → IsListed (Sign k) ts b q → Same a b r q
  one-listed k weak none (IsListed.nothing {u = u} c) y = elim (listed-only y) [
    | inl z ↦ (sym z.3, let a = z.1 in cc)
    | inr z ↦ absurd (let yes : begins_expr u.kind ≡ true = exprs-begin z.2 in let no : begins_expr u.kind ≡ false = ap begins_expr c ∙ none in cc)
  ]
  one-listed {q = q} k weak none (IsListed.some {u = u} {rest = rest} x c) y = elim (listed-only y) [
    | inl z ↦ absurd (closed-by k none x z.1 z.2)
    | inr z ↦ let s = one-exprs x z.2 (ends-sign 3 k u rest c (omega (arith, weak))) (subst (Ends 3) (sym z.3.1) (ends-sign 3 k z.3.0 q z.3.2 (omega (arith, weak)))) in
        (s.0 ∙ sym z.3.3, let g = s.1 in let l = z.3.1 in cc)
  ]

  one-exprs : {ts r q : List Token} {a b : List PExpr} → IsExprs ts a r → IsExprs ts b q → Ends 3 r → Ends 3 q → Same a b r q
  one-exprs (IsExprs.exprs x m) y e f = same-join lists m y e f (λ left d z g h. one-expr x z g h) (λ z. one-more m z e f)

  one-more : {a b c : List PExpr} {ts r q : List Token} → IsMoreExprs a ts b r → IsMoreExprs a ts c q → Ends 3 r → Ends 3 q → Same b c r q
  one-more (IsMoreExprs.no_more_exprs) y e f = same-end lists.chain y e
  one-more (IsMoreExprs.more_exprs is x m) y e f = same-more lists.chain (sign-some 6 _ is) m y e f (λ left d z g h. one-expr x z g h) (λ z. one-more m z e f)
