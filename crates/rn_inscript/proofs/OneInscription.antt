-- A list of tokens is one condition, and one inscription, at most.
use Rattle.rn_inscript.proofs.Names.{◌≡◌, ◌<◌, inl, inr, true, false, List, [], ◌∷◌, refl, sym, ◌∙◌, ap, subst, arith, Some, Token, Name, CompareKind, PExpr, PForm, PCond, PSimple, PName, PInscribed, PInscription, colon, close_paren, compare_of, target_of, IsExpr, IsListed, at_spot, IsCond, IsAlternatives, IsMoreAlternatives, IsBoth, IsMoreBoth, IsSimple, any_of, IsInscribed, IsInscription, IsCall, name_at, absent, Then, Ends, strength, IsEquality}
use Rattle.rn_inscript.specs.declared.exprs.PForm.TheVariants as F
use Rattle.rn_inscript.specs.declared.conds.PSimple.TheVariants as S
use Rattle.rn_inscript.specs.declared.inscriptions.PInscribed.TheVariants as I
use Rattle.rn_inscript.specs.Signs.{not_sign}
use Rattle.rn_inscript.proofs.OneSign.{sign-some}
use Rattle.rn_inscript.proofs.StageLemmas.{weaker}
use Rattle.rn_inscript.proofs.ConditionPhrases.{conjunctions, disjunctions, SimpleEnd, cond-part, simple-only, end-follow, compare-strength}
use Rattle.rn_inscript.proofs.NegationReading.{not-only}
use Rattle.rn_inscript.proofs.OperandPhrases.{begins_expr, expr-begins}
use Rattle.rn_inscript.proofs.InscriptionPhrases.{arc-only, guard-only, action-only, call-only, uplink-only, target-only}
use Rattle.rn_inscript.proofs.LinkReading.{target-expr}
use Rattle.rn_inscript.proofs.OneExpression.{Same, same-end, same-more, same-join, ends-sign, one-expr, one-listed}

no-compare : {t : Token} {us ts r : List Token} {kind : CompareKind} → r ≡ ts → ts ≡ t ∷ us → compare_of t.kind ≡ Some kind → Ends 3 r → ⊥
no-compare {t = t} {us = us} {kind = kind} a b is ends = let small : strength t.kind < 3 = subst (Ends 3) (a ∙ b) ends in let h : strength t.kind ≡ 3 = compare-strength t.kind kind is in omega (arith, small, h)

one-end : {a : PExpr} {b c : PSimple} {ts r q : List Token} → SimpleEnd a ts b r → SimpleEnd a ts c q → Ends 3 r → Ends 3 q → Same b c r q
one-end {a = a} x y e f = elim x [
  | inl d ↦ elim y [ inl k ↦ (d.0 ∙ sym k.0, d.1 ∙ sym k.1) | inr k ↦ absurd (no-compare d.1 k.3 k.4 e) ]
  | inr d ↦ elim y [
    | inl k ↦ absurd (no-compare k.1 d.3 d.4 f)
    | inr k ↦
        let same : d.1 ≡ k.1 = let g = d.3 in let h = k.3 in cc in
        let kind : d.2 ≡ k.2 = let g = d.3 in let h = k.3 in let m = d.4 in let n = k.4 in cc in
        let s = one-expr d.5.2 (subst (λ us. IsExpr us k.5.0 k.5.1) (sym same) k.5.2) (weaker 3 4 _ (omega arith) (rw d.5.3.1 at e)) (weaker 3 4 _ (omega arith) (rw k.5.3.1 at f)) in
        (d.5.3.0 ∙ ap (λ z. S.Compare z a d.5.0) kind ∙ ap (λ z. S.Compare k.2 a z) s.0 ∙ sym k.5.3.0, d.5.3.1 ∙ s.1 ∙ sym k.5.3.1)
  ]
]

one-plain : {b c : PSimple} {ts r q : List Token} → Then IsExpr SimpleEnd ts b r → Then IsExpr SimpleEnd ts c q → Ends 3 r → Ends 3 q → Same b c r q
one-plain {b = b} {c = c} {r = r} {q = q} x y e f =
    let s = one-expr x.2 y.2 (end-follow x.0 x.1 b r e x.3) (end-follow y.0 y.1 c q f y.3) in
    one-end x.3 (subst (λ z. SimpleEnd z x.1 c q) (sym s.0) (subst (λ us. SimpleEnd y.0 us c q) (sym s.1) y.3)) e f

no-not : {ts mid : List Token} {a : PExpr} → IsExpr ts a mid → (t : Token) (us : List Token) → ts ≡ t ∷ us → t.kind ≡ not_sign → ⊥
no-not {mid = mid} {a = a} x t us is h = let yes : begins_expr t.kind ≡ true = expr-begins (subst (λ vs. IsExpr vs a mid) is x) in let no : begins_expr t.kind ≡ false = ap begins_expr h in cc

mutual
  pub one-cond : {ts r q : List Token} {a b : PCond} → IsCond ts a r → IsCond ts b q → Ends 1 r → Ends 1 q → Same a b r q
  one-cond (IsCond.any x) y e f = let p = cond-part y in let s = one-alternatives x p.2 e (subst (Ends 1) p.3.1 f) in (ap any_of s.0 ∙ sym p.3.0, s.1 ∙ sym p.3.1)

  one-alternatives : {ts r q : List Token} {a b : List (List PSimple)} → IsAlternatives ts a r → IsAlternatives ts b q → Ends 1 r → Ends 1 q → Same a b r q
  one-alternatives (IsAlternatives.alternatives x m) y e f = same-join disjunctions m y e f (λ left d z g h. one-both x z g h) (λ z. one-more-alternatives m z e f)

  one-more-alternatives : {a b c : List (List PSimple)} {ts r q : List Token} → IsMoreAlternatives a ts b r → IsMoreAlternatives a ts c q → Ends 1 r → Ends 1 q → Same b c r q
  one-more-alternatives (IsMoreAlternatives.no_more_alternatives) y e f = same-end disjunctions.chain y e
  one-more-alternatives (IsMoreAlternatives.more_alternatives is x m) y e f = same-more disjunctions.chain (sign-some 22 _ is) m y e f (λ left d z g h. one-both x z g h) (λ z. one-more-alternatives m z e f)

  one-both : {ts r q : List Token} {a b : List PSimple} → IsBoth ts a r → IsBoth ts b q → Ends 2 r → Ends 2 q → Same a b r q
  one-both (IsBoth.both x m) y e f = same-join conjunctions m y e f (λ left d z g h. one-simple x z g h) (λ z. one-more-both m z e f)

  one-more-both : {a b c : List PSimple} {ts r q : List Token} → IsMoreBoth a ts b r → IsMoreBoth a ts c q → Ends 2 r → Ends 2 q → Same b c r q
  one-more-both (IsMoreBoth.no_more_both) y e f = same-end conjunctions.chain y e
  one-more-both (IsMoreBoth.more_both is x m) y e f = same-more conjunctions.chain (sign-some 21 _ is) m y e f (λ left d z g h. one-simple x z g h) (λ z. one-more-both m z e f)

  one-simple : {ts r q : List Token} {a b : PSimple} → IsSimple ts a r → IsSimple ts b q → Ends 3 r → Ends 3 q → Same a b r q
  one-simple (IsSimple.bare x) y e f = one-plain (_, _, x, inl (refl, refl)) (simple-only (no-not x) y) e f
  one-simple (IsSimple.compare x is z) y e f = one-plain (_, _, x, inr (_, _, _, refl, is, (_, _, z, (refl, refl)))) (simple-only (no-not x) y) e f
  one-simple {q = q} (IsSimple.negation {v = v} {ts = ts} {rest = rest} {c = c} n p x k) y e f =
      let z = not-only n y in let same : z.1 ≡ ts = let g = z.2 in cc in
      let s = one-cond x (subst (λ us. IsCond us z.4.0 z.4.1) same z.4.2) (ends-sign 1 5 v rest k (omega arith)) (subst (Ends 1) (sym z.4.3.1) (ends-sign 1 5 z.4.3.0 q z.4.3.2 (omega arith))) in
      (ap (λ w. S.Not w) s.0 ∙ sym z.4.3.3, let g = s.1 in let l = z.4.3.1 in cc)

one-call : {ts r q : List Token} {a b : PName × List PExpr} → IsCall ts a r → IsCall ts b q → Same a b r q
one-call (IsCall.call {t = t} {u = u} {ts = ts} {ch = ch} h p x) y =
    let z = call-only y in let w = z.5 in
    let first : z.0 ≡ t = let g = z.3 in cc in
    let name : z.2 ≡ ch = let g = z.4 in let k = h in let l = ap (λ v. v.kind) first in cc in
    let same : w.1 ≡ ts = let g = z.3 in let k = w.2 in cc in
    let s = one-listed 5 refl refl x (subst (λ us. IsListed close_paren us w.4.0 w.4.1) same w.4.2) in
    (ap (λ es. (name_at t.spot ch, es)) s.0 ∙ ap (λ n. (name_at t.spot n, w.4.0)) (sym name) ∙ ap (λ v. (name_at v.spot z.2, w.4.0)) (sym first) ∙ sym w.4.3.0, s.1 ∙ sym w.4.3.1)

-- an equality doesn't begin with a target and a colon
no-link : {t u : Token} {ts : List Token} {e : PInscribed} {q : List Token} (form : PForm) → target_of t.kind ≡ Some form → u.kind ≡ colon → IsEquality (t ∷ u ∷ ts) e q → ⊥
no-link {u = u} form k c y = let m = target-expr form k c y.4 in let same : y.2 ≡ u = cc in let a : y.2.kind ≡ colon = ap (λ v. v.kind) same ∙ c in let b = y.5 in cc

-- a form that is no equality
no_equality : PInscribed → Type 0
no_equality (I.Equality a b) = ⊥
no_equality _ = Unit {0}

-- such an inscription is no other one
one-other : {ts : List Token} {a b : PInscribed} → IsInscribed ts a [] → no_equality a → IsInscribed ts b [] → a ≡ b
unfolding no_equality
one-other (IsInscribed.plain_arc {u = u} {kind = kind} {p = p} h n) o y = let z = arc-only kind h y in elim z.5 [
  | inl d ↦ let first : u ≡ z.0 = let g = z.3 in cc in let name : p ≡ z.2 = let g = z.4 in let k = n in cc in
      ap (λ v. I.Arc kind (name_at v.spot p) (absent kind v.spot)) first ∙ ap (λ s. I.Arc kind (name_at z.0.spot s) (absent kind z.0.spot)) name ∙ sym d.0
  | inr w ↦ absurd (let g = z.3 in let k = w.2 in cc)
]
one-other (IsInscribed.arc {u = u} {v = v} {ts = ts} {kind = kind} {p = p} {e = e} h n c x) o y = let z = arc-only kind h y in elim z.5 [
  | inl d ↦ absurd (let g = z.3 in let k = d.1 in cc)
  | inr w ↦ let first : u ≡ z.0 = let g = z.3 in cc in let name : p ≡ z.2 = let g = z.4 in let k = n in cc in let same : w.1 ≡ ts = let g = z.3 in let k = w.2 in cc in
      let s = one-expr x (subst (λ us. IsExpr us w.4.0 w.4.1) same w.4.2) tt (subst (Ends 4) w.4.3.1 tt) in
      ap (λ v. I.Arc kind (name_at v.spot p) (Some e)) first ∙ ap (λ s. I.Arc kind (name_at z.0.spot s) (Some e)) name ∙ ap (λ x. I.Arc kind (name_at z.0.spot z.2) (Some x)) s.0 ∙ sym w.4.3.0
]
one-other (IsInscribed.guard h x) o y = let z = guard-only h y in let s = one-cond x z.2 tt (subst (Ends 1) z.3.1 tt) in ap (λ c. I.Guard c) s.0 ∙ sym z.3.0
one-other (IsInscribed.print {u = u} {ts = ts} h p x) o y = elim (action-only h y) [
  | inl w ↦ let same : w.1 ≡ ts = let k = w.2 in cc in let s = one-expr x (subst (λ us. IsExpr us w.4.0 w.4.1) same w.4.2) tt (subst (Ends 4) w.4.3.1 tt) in ap (λ e. I.Print e) s.0 ∙ sym w.4.3.0
  | inr z ↦ absurd (let first : z.0 ≡ u = let g = z.3 in cc in let k : u.kind ≡ Name z.2 = ap (λ v. v.kind) (sym first) ∙ z.4 in let l = p in cc)
]
one-other (IsInscribed.set {u = u} {v = v} {ts = ts} {x = n} {e = e} h p q x) o y = elim (action-only h y) [
  | inl w ↦ absurd (let first : w.0 ≡ u = let g = w.2 in cc in let k : w.0.kind ≡ Name n = ap (λ v. v.kind) first ∙ p in let l = w.3 in cc)
  | inr z ↦ let w = z.5 in let first : u ≡ z.0 = let g = z.3 in cc in let name : n ≡ z.2 = let g = z.4 in let k = p in cc in let same : w.1 ≡ ts = let g = z.3 in let k = w.2 in cc in
      let s = one-expr x (subst (λ us. IsExpr us w.4.0 w.4.1) same w.4.2) tt (subst (Ends 4) w.4.3.1 tt) in
      ap (λ v. I.Set (name_at v.spot n) e) first ∙ ap (λ s. I.Set (name_at z.0.spot s) e) name ∙ ap (λ x. I.Set (name_at z.0.spot z.2) x) s.0 ∙ sym w.4.3.0
]
one-other (IsInscribed.uplink h x) o y = let z = uplink-only h y in let s = one-call x z.2 in ap (λ c. I.Uplink c.0 c.1) s.0 ∙ sym z.3.0
one-other (IsInscribed.creation {t = t} {u = u} {v = v} {w = w} {x = x} {n = n} h c k m) o y = elim (target-only (F.Name x) (ap target_of h) y) [
  | inl e ↦ absurd (no-link (F.Name x) (ap target_of h) c e)
  | inr z ↦ elim z.4 [
    | inl r ↦ let a = r.2 in let b = a.4 in
        let var : x ≡ r.0 = let g = r.1 in let l = h in cc in
        let last : w ≡ b.0 = let g = z.2 in let l = a.2 in let i = b.3 in cc in
        let net : n ≡ b.2 = let g = ap (λ s. s.kind) last in let l = b.4 in let i = m in cc in
        ap (λ s. I.New (name_at t.spot s) (name_at w.spot n)) var ∙ ap (λ s. I.New (name_at t.spot r.0) (name_at s.spot n)) last ∙ ap (λ s. I.New (name_at t.spot r.0) (name_at b.0.spot s)) net ∙ sym b.5.0
    | inr r ↦ absurd (let a = call-only r.2 in let first : a.0 ≡ v = let g = a.3 in let l = z.2 in cc in let b : v.kind ≡ Name a.2 = ap (λ s. s.kind) (sym first) ∙ a.4 in let g = k in cc)
  ]
]
one-other (IsInscribed.downlink {t = t} {ts = ts} {form = form} {call = call} h c x) o y = elim (target-only form h y) [
  | inl e ↦ absurd (no-link form h c e)
  | inr z ↦ let same : z.1 ≡ ts = let g = z.2 in cc in elim z.4 [
    | inl r ↦ absurd (let a = call-only x in let b = r.2 in let first : a.0 ≡ b.0 = let g = a.3 in let l = b.2 in cc in let d : b.0.kind ≡ Name a.2 = ap (λ s. s.kind) (sym first) ∙ a.4 in let g = b.3 in cc)
    | inr r ↦ let s = one-call x (subst (λ us. IsCall us r.0 r.1) same r.2) in ap (λ k. I.Downlink (at_spot t.spot form) k.0 k.1) s.0 ∙ sym r.3.0
  ]
]
one-other (IsInscribed.equality x q y) o z = absurd o

one-form : {ts : List Token} {a b : PInscribed} → IsInscribed ts a [] → IsInscribed ts b [] → a ≡ b
unfolding no_equality
one-form (IsInscribed.equality {t = t} {us = us} {b = b} x q y) (IsInscribed.equality {t = u} {us = vs} {a = a} {b = c} w k z) =
    let s = one-expr x w (ends-sign 4 9 t us q (omega arith)) (ends-sign 4 9 u vs k (omega arith)) in
    let same : vs ≡ us = let g = s.1 in cc in
    let r = one-expr y (subst (λ l. IsExpr l c []) same z) tt tt in
    ap (λ l. I.Equality l b) s.0 ∙ ap (λ l. I.Equality a l) r.0
one-form (IsInscribed.equality x q y) z = sym (one-other z tt (IsInscribed.equality x q y))
one-form x y = one-other x tt y

one-whole : {ts us : List Token} {i j : PInscription} → ts ≡ us → IsInscription ts i → IsInscription us j → i ≡ j
one-whole is (IsInscription.inscription {t = t} {ts = ts} {form = form} x) (IsInscription.inscription {t = u} {ts = us} {form = other} y) =
    let first : t ≡ u = cc in
    let s = one-form x (subst (λ l. IsInscribed l other []) (sym is) y) in
    ap (λ f. record { form = f; spot = t.spot }) s ∙ ap (λ v. record { form = other; spot = v.spot }) first

pub one_inscription : (tokens : List Token) (i j : PInscription) → IsInscription tokens i → IsInscription tokens j → i ≡ j
one_inscription tokens i j x y = one-whole refl x y

pub one_expression : (tokens : List Token) (a b : PExpr) → IsExpr tokens a [] → IsExpr tokens b [] → a ≡ b
one_expression tokens a b x y = (one-expr x y tt tt).0
