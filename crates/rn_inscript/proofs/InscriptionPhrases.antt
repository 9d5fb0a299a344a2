-- What the forms of inscriptions say of their first token.
use Rattle.rn_inscript.proofs.Names.{◌≡◌, ℕ, ◌⊎◌, inl, inr, true, false, Bool, cond, List, [], ◌∷◌, refl, sym, ◌∙◌, ap, subst, arith, nat_eq, Option, Some, None, list_any, nat_tests, common_steps, Spot, Token, TokenKind, Name, Word, Number, Text, Sign, ArcKind, PExpr, PForm, PName, PInscribed, colon, equals, open_paren, close_paren, guard_word, action_word, print_word, new_word, arc_of, target_of, IsExpr, IsListed, at_spot, IsCond, IsInscribed, IsCall, name_at, absent, Phrases, Then, Done, IsEquality}
use Rattle.rn_inscript.specs.declared.inscriptions.PInscribed.TheVariants as I
use Rattle.rn_inscript.proofs.OperandPhrases.{begins_expr, expr-begins, expr-some}
use Rattle.rn_inscript.proofs.WithTokens.{WithKind, WithName}

-- whether a token begins a form other than an equality
abbrev pub leads : TokenKind → Bool
leads (Word k) = list_any (nat_eq k) (5 ∷ 6 ∷ 7 ∷ 8 ∷ 9 ∷ 10 ∷ 11 ∷ 12 ∷ 13 ∷ 14 ∷ 17 ∷ [])
leads (Sign k) = nat_eq k 8
leads (Name s) = true
leads _ = false

targets-no-arcs : (kind : TokenKind) (form : PForm) → target_of kind ≡ Some form → arc_of kind ≡ None
targets-no-arcs (Word k) form h = grind (arith, nat_tests, common_steps)
targets-no-arcs (Name s) form h = refl
targets-no-arcs (Number n) form h = refl
targets-no-arcs (Text s) form h = refl
targets-no-arcs (Sign k) form h = refl

pub not-target : {kind other : TokenKind} {form : PForm} → kind ≡ other → target_of other ≡ None → target_of kind ≡ Some form → ⊥
not-target is none h = let e = sym none ∙ (ap target_of (sym is) ∙ h) in cc

-- what can follow the place of an arc
abbrev pub ArcEnd : ArcKind → PName → Phrases PInscribed
ArcEnd kind place ts e rest =
    Done (I.Arc kind place (absent kind place.spot)) ts e rest ⊎ WithKind colon (Then IsExpr (λ x. Done (I.Arc kind place (Some x)))) ts e rest

-- what can follow `action`
abbrev pub PrintEnd : Phrases PInscribed
PrintEnd = WithKind print_word (Then IsExpr (λ x. Done (I.Print x)))

abbrev pub SetEnd : PName → Phrases PInscribed
SetEnd var = WithKind equals (Then IsExpr (λ x. Done (I.Set var x)))

-- what can follow a target and a colon
abbrev pub NewEnd : PName → Phrases PInscribed
NewEnd var = WithKind new_word (WithName (λ net. Done (I.New var net)))

abbrev pub DownEnd : PExpr → Phrases PInscribed
DownEnd target = Then IsCall (λ c. Done (I.Downlink target c.0 c.1))

-- what can follow the first token of a form that is no equality. The token has this kind, and is such an arc or target
abbrev pub OtherEnd : TokenKind → Phrases PInscribed
OtherEnd (Word k) ts e rest = cond (nat_eq k 13) (Then IsCond (λ c. Done (I.Guard c)) ts e rest) (cond (nat_eq k 14) (PrintEnd ts e rest ⊎ WithName SetEnd ts e rest) ⊥)
OtherEnd (Sign k) ts e rest = cond (nat_eq k 8) (Then IsCall (λ c. Done (I.Uplink c.0 c.1)) ts e rest) ⊥
OtherEnd _ ts e rest = ⊥

abbrev pub TargetEnd : Spot → TokenKind → PForm → Phrases PInscribed
TargetEnd spot kind form =
    WithKind colon (λ us e rest. ((x : List ℕ) × (kind ≡ Name x) × NewEnd (name_at spot x) us e rest) ⊎ DownEnd (at_spot spot form) us e rest)

abbrev pub FormEnd : Spot → TokenKind → Option ArcKind → Option PForm → Phrases PInscribed
FormEnd spot kind (Some a) target = WithName (ArcEnd a)
FormEnd spot kind None (Some form) = TargetEnd spot kind form
FormEnd spot kind None None = OtherEnd kind

abbrev pub EndOf : Spot → TokenKind → Phrases PInscribed
EndOf spot kind = FormEnd spot kind (arc_of kind) (target_of kind)

-- a form that is no equality has a first token
abbrev pub FormParts : Phrases PInscribed
FormParts [] e rest = ⊥
FormParts (t ∷ ts) e rest = EndOf t.spot t.kind ts e rest

form-parts : {ts rest : List Token} {e : PInscribed} → IsInscribed ts e rest → IsEquality ts e rest ⊎ FormParts ts e rest
form-parts (IsInscribed.plain_arc h p) = inr (rw h (_, _, _, refl, p, inl (refl, refl)))
form-parts (IsInscribed.arc h p c x) = inr (rw h (_, _, _, refl, p, inr (_, _, refl, c, (_, _, x, (refl, refl)))))
form-parts (IsInscribed.guard h x) = inr (rw h (_, _, x, (refl, refl)))
form-parts (IsInscribed.print h p x) = inr (rw h (inl (_, _, refl, p, (_, _, x, (refl, refl)))))
form-parts (IsInscribed.set h p q x) = inr (rw h (inr (_, _, _, refl, p, (_, _, refl, q, (_, _, x, (refl, refl))))))
form-parts (IsInscribed.uplink h x) = inr (rw h (_, _, x, (refl, refl)))
form-parts (IsInscribed.creation h c n w) = inr (rw h (_, _, refl, c, inl (_, refl, (_, _, refl, n, (_, _, _, refl, w, (refl, refl))))))
form-parts (IsInscribed.downlink {t = t} {form = form} h c x) = inr (rw (targets-no-arcs t.kind form h) (rw h (_, _, refl, c, inr (_, _, x, (refl, refl)))))
form-parts (IsInscribed.equality x q y) = inl (_, _, _, _, x, q, y, refl)

pub inscribed-some : {e : PInscribed} {rest : List Token} → IsInscribed [] e rest → ⊥
inscribed-some x = elim (form-parts x) [ inl y ↦ expr-some y.4 refl | inr z ↦ z ]

-- a token that begins no expression
no-equality : {t : Token} {ts rest : List Token} {e : PInscribed} → begins_expr t.kind ≡ false → IsInscribed (t ∷ ts) e rest → EndOf t.spot t.kind ts e rest
no-equality none x = elim (form-parts x) [ inl y ↦ absurd (let a = none in let b = expr-begins y.4 in cc) | inr z ↦ z ]

by-kind : {t : Token} (kind : TokenKind) {ts rest : List Token} {e : PInscribed} → t.kind ≡ kind → begins_expr kind ≡ false → IsInscribed (t ∷ ts) e rest → EndOf t.spot kind ts e rest
by-kind {t = t} kind {ts = ts} {rest = rest} {e = e} k none x = subst (λ k. EndOf t.spot k ts e rest) k (no-equality (ap begins_expr k ∙ none) x)

pub arc-only : {t : Token} {ts rest : List Token} {e : PInscribed} (a : ArcKind) → arc_of t.kind ≡ Some a → IsInscribed (t ∷ ts) e rest → WithName (ArcEnd a) ts e rest
arc-only {t = t} {ts = ts} {rest = rest} {e = e} a k x = subst (λ o. FormEnd t.spot t.kind o (target_of t.kind) ts e rest) k (no-equality (words t.kind k) x)
  where
    words : (kind : TokenKind) → arc_of kind ≡ Some a → begins_expr kind ≡ false
    words (Word k) h = grind (arith, nat_tests, common_steps)
    words (Name s) h = cc
    words (Number n) h = cc
    words (Text s) h = cc
    words (Sign k) h = cc

pub arc-on : {t : Token} (a : ArcKind) → arc_of t.kind ≡ Some a → (ts : List Token) (e : PInscribed) (rest : List Token) → WithName (ArcEnd a) ts e rest → IsInscribed (t ∷ ts) e rest
arc-on {t = t} a k ts e rest x = subst (λ us. IsInscribed (t ∷ us) e rest) (sym x.3) (elim x.5 [
  | inl d ↦ subst (λ b. IsInscribed (t ∷ x.0 ∷ x.1) b rest) (sym d.0) (subst (λ us. IsInscribed (t ∷ x.0 ∷ x.1) (I.Arc a (name_at x.0.spot x.2) (absent a x.0.spot)) us) (sym d.1) (IsInscribed.plain_arc k x.4))
  | inr z ↦ subst (λ us. IsInscribed (t ∷ x.0 ∷ us) e rest) (sym z.2) (subst (λ b. IsInscribed (t ∷ x.0 ∷ z.0 ∷ z.1) b rest) (sym z.4.3.0) (IsInscribed.arc k x.4 z.3 (subst (λ us. IsExpr z.1 z.4.0 us) (sym z.4.3.1) z.4.2)))
])

pub guard-only : {t : Token} {ts rest : List Token} {e : PInscribed} → t.kind ≡ guard_word → IsInscribed (t ∷ ts) e rest → Then IsCond (λ c. Done (I.Guard c)) ts e rest
guard-only k x = by-kind guard_word k refl x

pub guard-on : {t : Token} → t.kind ≡ guard_word → (ts : List Token) (e : PInscribed) (rest : List Token) → Then IsCond (λ c. Done (I.Guard c)) ts e rest → IsInscribed (t ∷ ts) e rest
guard-on {t = t} k ts e rest y = subst (λ b. IsInscribed (t ∷ ts) b rest) (sym y.3.0) (IsInscribed.guard k (subst (λ us. IsCond ts y.0 us) (sym y.3.1) y.2))

pub action-only : {t : Token} {ts rest : List Token} {e : PInscribed} → t.kind ≡ action_word → IsInscribed (t ∷ ts) e rest → PrintEnd ts e rest ⊎ WithName SetEnd ts e rest
action-only k x = by-kind action_word k refl x

pub action-on : {t : Token} → t.kind ≡ action_word → (ts : List Token) (e : PInscribed) (rest : List Token) → PrintEnd ts e rest ⊎ WithName SetEnd ts e rest → IsInscribed (t ∷ ts) e rest
action-on {t = t} k ts e rest x = elim x [
  | inl z ↦ subst (λ us. IsInscribed (t ∷ us) e rest) (sym z.2) (subst (λ b. IsInscribed (t ∷ z.0 ∷ z.1) b rest) (sym z.4.3.0) (IsInscribed.print k z.3 (subst (λ us. IsExpr z.1 z.4.0 us) (sym z.4.3.1) z.4.2)))
  | inr y ↦ let z = y.5 in subst (λ us. IsInscribed (t ∷ us) e rest) (sym y.3) (subst (λ us. IsInscribed (t ∷ y.0 ∷ us) e rest) (sym z.2)
      (subst (λ b. IsInscribed (t ∷ y.0 ∷ z.0 ∷ z.1) b rest) (sym z.4.3.0) (IsInscribed.set k y.4 z.3 (subst (λ us. IsExpr z.1 z.4.0 us) (sym z.4.3.1) z.4.2))))
]

-- a call
abbrev pub CallEnd : PName → Phrases (PName × List PExpr)
CallEnd channel = WithKind open_paren (Then (IsListed close_paren) (λ es. Done (channel, es)))

pub call-only : {ts rest : List Token} {e : PName × List PExpr} → IsCall ts e rest → WithName CallEnd ts e rest
call-only (IsCall.call h p x) = (_, _, _, refl, h, (_, _, refl, p, (_, _, x, (refl, refl))))

pub call-on : (ts : List Token) (e : PName × List PExpr) (rest : List Token) → WithName CallEnd ts e rest → IsCall ts e rest
call-on ts e rest y = let z = y.5 in subst (λ us. IsCall us e rest) (sym y.3) (subst (λ us. IsCall (y.0 ∷ us) e rest) (sym z.2)
    (subst (λ b. IsCall (y.0 ∷ z.0 ∷ z.1) b rest) (sym z.4.3.0) (IsCall.call y.4 z.3 (subst (λ us. IsListed close_paren z.1 z.4.0 us) (sym z.4.3.1) z.4.2))))

pub uplink-only : {t : Token} {ts rest : List Token} {e : PInscribed} → t.kind ≡ colon → IsInscribed (t ∷ ts) e rest → Then IsCall (λ c. Done (I.Uplink c.0 c.1)) ts e rest
uplink-only k x = by-kind colon k refl x

pub uplink-on : {t : Token} → t.kind ≡ colon → (ts : List Token) (e : PInscribed) (rest : List Token) → Then IsCall (λ c. Done (I.Uplink c.0 c.1)) ts e rest → IsInscribed (t ∷ ts) e rest
uplink-on {t = t} k ts e rest y = subst (λ b. IsInscribed (t ∷ ts) b rest) (sym y.3.0) (IsInscribed.uplink k (subst (λ us. IsCall ts y.0 us) (sym y.3.1) y.2))

-- an equality, a creation or a downlink, which begin alike
pub target-only : {t : Token} {ts rest : List Token} {e : PInscribed} (form : PForm) → target_of t.kind ≡ Some form → IsInscribed (t ∷ ts) e rest → IsEquality (t ∷ ts) e rest ⊎ TargetEnd t.spot t.kind form ts e rest
target-only {t = t} {ts = ts} {rest = rest} {e = e} form k x = elim (form-parts x) [
  | inl y ↦ inl y
  | inr z ↦ inr (subst (λ o. FormEnd t.spot t.kind None o ts e rest) k (subst (λ o. FormEnd t.spot t.kind o (target_of t.kind) ts e rest) (targets-no-arcs t.kind form k) z))
]

pub new-on : {t u : Token} (x : List ℕ) → t.kind ≡ Name x → u.kind ≡ colon → (ts : List Token) (e : PInscribed) (rest : List Token) → NewEnd (name_at t.spot x) ts e rest → IsInscribed (t ∷ u ∷ ts) e rest
new-on {t = t} {u = u} x k c ts e rest z = let y = z.4 in subst (λ us. IsInscribed (t ∷ u ∷ us) e rest) (sym z.2) (subst (λ us. IsInscribed (t ∷ u ∷ z.0 ∷ us) e rest) (sym y.3)
    (subst (λ b. IsInscribed (t ∷ u ∷ z.0 ∷ y.0 ∷ y.1) b rest) (sym y.5.0) (subst (λ us. IsInscribed (t ∷ u ∷ z.0 ∷ y.0 ∷ y.1) (I.New (name_at t.spot x) (name_at y.0.spot y.2)) us) (sym y.5.1) (IsInscribed.creation k c z.3 y.4))))

pub down-on : {t u : Token} (form : PForm) → target_of t.kind ≡ Some form → u.kind ≡ colon → (ts : List Token) (e : PInscribed) (rest : List Token) → DownEnd (at_spot t.spot form) ts e rest → IsInscribed (t ∷ u ∷ ts) e rest
down-on {t = t} {u = u} form k c ts e rest y = subst (λ b. IsInscribed (t ∷ u ∷ ts) b rest) (sym y.3.0) (IsInscribed.downlink k c (subst (λ us. IsCall ts y.0 us) (sym y.3.1) y.2))

pub equality-on : (ts : List Token) (e : PInscribed) (rest : List Token) → IsEquality ts e rest → IsInscribed ts e rest
equality-on ts e rest y = subst (λ b. IsInscribed ts b rest) (sym y.7) (IsInscribed.equality y.4 y.5 y.6)

pub other-only : {t : Token} {ts rest : List Token} {e : PInscribed} → leads t.kind ≡ false → IsInscribed (t ∷ ts) e rest → IsEquality (t ∷ ts) e rest
other-only {t = t} {ts = ts} {rest = rest} {e = e} none x = elim (form-parts x) [ inl y ↦ y | inr z ↦ absurd (no-end t.kind none z) ]
  where
    no-end : (kind : TokenKind) → leads kind ≡ false → EndOf t.spot kind ts e rest → ⊥
    no-end (Word k) none z =
        let a : arc_of (Word k) ≡ None = grind (arith, nat_tests, common_steps) in let b : target_of (Word k) ≡ None = grind (arith, nat_tests, common_steps) in
        let g : nat_eq k 13 ≡ false = grind (arith, nat_tests, common_steps) in let h : nat_eq k 14 ≡ false = grind (arith, nat_tests, common_steps) in
        rw (a, b, g, h) at z
    no-end (Sign k) none z = rw none at z
    no-end (Name s) none z = cc
    no-end (Number n) none z = z
    no-end (Text s) none z = z

-- a word that begins no form, and is not `this`
pub word-only : (k : ℕ) {t : Token} {ts rest : List Token} {e : PInscribed} → t.kind ≡ Word k → leads (Word k) ≡ false → IsInscribed (t ∷ ts) e rest → ⊥
word-only k {t = t} is none x = let eq = other-only (ap leads is ∙ none) x in no k none (ap begins_expr (sym is) ∙ expr-begins eq.4)
  where
    no : (k : ℕ) → leads (Word k) ≡ false → begins_expr (Word k) ≡ true → ⊥
    no k none begins = grind (arith, nat_tests, common_steps)
