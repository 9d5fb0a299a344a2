-- Phrases of inscriptions end by themselves: what comes after one is any other tokens. None of their
-- tokens is a semicolon or begins a declaration, and their commas stand in brackets.
use Rattle.rn_net.proofs.Names.{◌≡◌, ℕ, ◌+◌, ◌-◌, true, false, Bool, not, ◌&&◌, List, [], ◌∷◌, ◌++◌, refl, sym, ◌∙◌, ap, subst, append_assoc, arith, nat_eq, nat_lt, Option, nat_tests, common_steps, Token, TokenKind, Name, Word, Number, Text, Sign, ArcKind, plus_of, times_of, compare_of, arc_of, target_of, open_brace, close_brace, open_bracket, close_bracket, open_paren, close_paren, comma, PExpr, PForm, PName, PInscribed, IsExpr, IsTerms, IsProduct, IsFactors, IsUnary, IsPrimary, IsListed, IsExprs, IsMoreExprs, IsInscribed, IsCall, is_comma, open_after}
use Rattle.std.specs.Prelude.{Some}
use Rattle.rn_model.specs.declared.expr.OpKind.{OpKind}
use Rattle.rn_model.specs.declared.expr.CompareKind.{CompareKind}
use Rattle.rn_inscript.specs.declared.conds.PCond.{PCond}
use Rattle.rn_inscript.specs.declared.conds.PSimple.{PSimple}
use Rattle.rn_inscript.specs.Conditions.{IsCond, IsAlternatives, IsMoreAlternatives, IsBoth, IsMoreBoth, IsSimple}

-- no semicolon, and no word that begins a declaration
abbrev pub is_inside : TokenKind → Bool
is_inside (Word k) = nat_lt 4 k
is_inside (Sign k) = not (nat_eq k 7)
is_inside _ = true

-- a token inside a phrase before which so many brackets are open, and after which so many
pub record Passes (i j : ℕ) (kind : TokenKind) : Type 0 where
  pub inside : is_inside kind ≡ true
  pub apart : (is_comma kind && nat_eq i 0) ≡ false
  pub depth : open_after i kind ≡ j

-- tokens inside a phrase, from so many open brackets to so many
abbrev pub AreInside : ℕ → ℕ → List Token → Type 0
AreInside i j [] = i ≡ j
AreInside i j (t ∷ ts) = (k : ℕ) × Passes i k t.kind × AreInside k j ts

pub inside-append : (i j k : ℕ) (ts us : List Token) → AreInside i j ts → AreInside j k us → AreInside i k (ts ++ us)
inside-append i j k [] us a b = subst (λ n. AreInside n k us) (sym a) b
inside-append i j k (t ∷ ts) us a b = (a.0, a.1, inside-append a.0 j k ts us a.2 b)

-- what passes
pub at : {i j : ℕ} {k kind : TokenKind} → kind ≡ k → Passes i j k → Passes i j kind
at {i = i} {j = j} h p = subst (Passes i j) (sym h) p

-- a token that is no bracket and no comma
abbrev pub is_flat : TokenKind → Bool
is_flat (Word k) = nat_lt 4 k
is_flat (Sign k) = nat_lt 7 k
is_flat _ = true

flat-of : (i : ℕ) (kind : TokenKind) → is_flat kind ≡ true → Passes i i kind
flat-of i (Word k) h = record { inside = h; apart = refl; depth = refl }
flat-of i (Sign k) h = record { inside = grind (arith, nat_tests, common_steps); apart = grind (arith, nat_tests, common_steps); depth = grind (arith, nat_tests, common_steps) }
flat-of i (Name s) h = record { inside = refl; apart = refl; depth = refl }
flat-of i (Number n) h = record { inside = refl; apart = refl; depth = refl }
flat-of i (Text s) h = record { inside = refl; apart = refl; depth = refl }

flat : {i : ℕ} {k kind : TokenKind} → kind ≡ k → is_flat k ≡ true → Passes i i kind
flat {i = i} {k = k} h is = at h (flat-of i k is)

-- a token that is read as something is flat if the signs and the words read so are
flat_if : {A : Type 0} {i : ℕ} {kind : TokenKind} {a : A} (f : TokenKind → Option A) → ((k : ℕ) → f (Sign k) ≡ Some a → nat_lt 7 k ≡ true) → ((k : ℕ) → f (Word k) ≡ Some a → nat_lt 4 k ≡ true) →
    f kind ≡ Some a → Passes i i kind
flat_if {A = A} {i = i} {kind = kind} {a = a} f signs words = by kind
  where
    by : (kind : TokenKind) → f kind ≡ Some a → Passes i i kind
    by (Sign k) h = flat-of i (Sign k) (signs k h)
    by (Word k) h = flat-of i (Word k) (words k h)
    by (Name s) h = flat-of i (Name s) refl
    by (Number n) h = flat-of i (Number n) refl
    by (Text s) h = flat-of i (Text s) refl

plus : {i : ℕ} {kind : TokenKind} {op : OpKind} → plus_of kind ≡ Some op → Passes i i kind
plus = flat_if plus_of (λ k h. grind (arith, nat_tests, common_steps)) (λ k h. cc)

times : {i : ℕ} {kind : TokenKind} {op : OpKind} → times_of kind ≡ Some op → Passes i i kind
times = flat_if times_of (λ k h. grind (arith, nat_tests, common_steps)) (λ k h. cc)

comparison : {i : ℕ} {kind : TokenKind} {op : CompareKind} → compare_of kind ≡ Some op → Passes i i kind
comparison = flat_if compare_of (λ k h. grind (arith, nat_tests, common_steps)) (λ k h. cc)

arc : {i : ℕ} {kind : TokenKind} {a : ArcKind} → arc_of kind ≡ Some a → Passes i i kind
arc = flat_if arc_of (λ k h. cc) (λ k h. grind (arith, nat_tests, common_steps))

target : {i : ℕ} {kind : TokenKind} {f : PForm} → target_of kind ≡ Some f → Passes i i kind
target = flat_if target_of (λ k h. cc) (λ k h. grind (arith, nat_tests, common_steps))

-- a bracket, and a comma in brackets
brace_opens : {i : ℕ} {kind : TokenKind} → kind ≡ open_brace → Passes i (i + 1) kind
brace_opens h = at h (record { inside = refl; apart = refl; depth = refl })

bracket_opens : {i : ℕ} {kind : TokenKind} → kind ≡ open_bracket → Passes i (i + 1) kind
bracket_opens h = at h (record { inside = refl; apart = refl; depth = refl })

less-one : (i : ℕ) → (i + 1) - 1 ≡ i
less-one i = omega arith

brace_closes : {i : ℕ} {kind : TokenKind} → kind ≡ close_brace → Passes (i + 1) i kind
brace_closes {i = i} h = at h (record { inside = refl; apart = refl; depth = less-one i })

bracket_closes : {i : ℕ} {kind : TokenKind} → kind ≡ close_bracket → Passes (i + 1) i kind
bracket_closes {i = i} h = at h (record { inside = refl; apart = refl; depth = less-one i })

paren_closes : {i : ℕ} {kind : TokenKind} → kind ≡ close_paren → Passes (i + 1) i kind
paren_closes {i = i} h = at h (record { inside = refl; apart = refl; depth = less-one i })

paren_opens : {i : ℕ} {kind : TokenKind} → kind ≡ open_paren → Passes i (i + 1) kind
paren_opens h = at h (record { inside = refl; apart = refl; depth = refl })

some-open : (i : ℕ) → nat_eq (i + 1) 0 ≡ false
some-open i = grind (arith, nat_tests)

comma_passes : (i : ℕ) {kind : TokenKind} → kind ≡ comma → Passes (i + 1) (i + 1) kind
comma_passes i h = at h (record { inside = refl; apart = some-open i; depth = refl })

-- the tokens of a phrase, which is one whatever comes after it
pub record Front (i j : ℕ) (X : List Token → List Token → Type 0) (ts rest : List Token) : Type 0 where
  pub front : List Token
  pub parts : ts ≡ front ++ rest
  pub inside : AreInside i j front
  pub on : (r : List Token) → X (front ++ r) r

whole : {X : List Token → List Token → Type 0} {i : ℕ} {rest : List Token} → ((r : List Token) → X r r) → Front i i X rest rest
whole on = record { front = []; parts = refl; inside = refl; on = on }

-- a token, and what comes after it
token : {X : List Token → List Token → Type 0} {i j k : ℕ} {t : Token} {ts rest : List Token} → Passes i j t.kind → Front j k (λ us r. X (t ∷ us) r) ts rest → Front i k X (t ∷ ts) rest
token {j = j} {t = t} is f = record { front = t ∷ f.front; parts = ap (λ us. t ∷ us) f.parts; inside = (j, is, f.inside); on = f.on }

-- a phrase, and what comes after it
phrase : {X Y : List Token → List Token → Type 0} {i j k : ℕ} {ts mid rest : List Token} → Front i j Y ts mid → Front j k (λ us r. (vs : List Token) → Y vs us → X vs r) mid rest → Front i k X ts rest
phrase {X = X} {i = i} {j = j} {k = k} {rest = rest} f g = record {
  front = f.front ++ g.front;
  parts = f.parts ∙ ap (λ us. f.front ++ us) g.parts ∙ sym (append_assoc f.front g.front rest);
  inside = inside-append i j k f.front g.front f.inside g.inside;
  on = λ r. subst (λ us. X us r) (sym (append_assoc f.front g.front r)) (g.on r (f.front ++ (g.front ++ r)) (f.on (g.front ++ r)));
}

mutual
  pub front-expr : (i : ℕ) {ts rest : List Token} {e : PExpr} → IsExpr ts e rest → Front i i (λ us r. IsExpr us e r) ts rest
  front-expr i (IsExpr.sum x y) = phrase (front-product i x) (phrase (front-terms i y) (whole (λ r _ q _ p. IsExpr.sum p q)))

  front-terms : (i : ℕ) {a e : PExpr} {ts rest : List Token} → IsTerms a ts e rest → Front i i (λ us r. IsTerms a us e r) ts rest
  front-terms i IsTerms.no_more_terms = whole (λ r. IsTerms.no_more_terms)
  front-terms i (IsTerms.more_terms is x y) = token (plus is) (phrase (front-product i x) (phrase (front-terms i y) (whole (λ r _ q _ p. IsTerms.more_terms is p q))))

  front-product : (i : ℕ) {ts rest : List Token} {e : PExpr} → IsProduct ts e rest → Front i i (λ us r. IsProduct us e r) ts rest
  front-product i (IsProduct.product x y) = phrase (front-unary i x) (phrase (front-factors i y) (whole (λ r _ q _ p. IsProduct.product p q)))

  front-factors : (i : ℕ) {a e : PExpr} {ts rest : List Token} → IsFactors a ts e rest → Front i i (λ us r. IsFactors a us e r) ts rest
  front-factors i IsFactors.no_more_factors = whole (λ r. IsFactors.no_more_factors)
  front-factors i (IsFactors.more_factors is x y) = token (times is) (phrase (front-unary i x) (phrase (front-factors i y) (whole (λ r _ q _ p. IsFactors.more_factors is p q))))

  front-unary : (i : ℕ) {ts rest : List Token} {e : PExpr} → IsUnary ts e rest → Front i i (λ us r. IsUnary us e r) ts rest
  front-unary i (IsUnary.negative h x) = token (flat h refl) (phrase (front-unary i x) (whole (λ r _ p. IsUnary.negative h p)))
  front-unary i (IsUnary.primary x) = phrase (front-primary i x) (whole (λ r _ p. IsUnary.primary p))

  front-primary : (i : ℕ) {ts rest : List Token} {e : PExpr} → IsPrimary ts e rest → Front i i (λ us r. IsPrimary us e r) ts rest
  front-primary i (IsPrimary.number h) = token (flat h refl) (whole (λ r. IsPrimary.number h))
  front-primary i (IsPrimary.text h) = token (flat h refl) (whole (λ r. IsPrimary.text h))
  front-primary i (IsPrimary.name h) = token (flat h refl) (whole (λ r. IsPrimary.name h))
  front-primary i (IsPrimary.this h) = token (flat h refl) (whole (λ r. IsPrimary.this h))
  front-primary i (IsPrimary.step h p q) = token (flat h refl) (token (paren_opens p) (token (paren_closes q) (whole (λ r. IsPrimary.step h p q))))
  front-primary i (IsPrimary.tuple h l) = token (bracket_opens h) (phrase (front-listed i (bracket_closes refl) l) (whole (λ r _ p. IsPrimary.tuple h p)))
  front-primary i (IsPrimary.list h l) = token (brace_opens h) (phrase (front-listed i (brace_closes refl) l) (whole (λ r _ p. IsPrimary.list h p)))
  front-primary i (IsPrimary.list_with_tail h x c y d) =
      token (brace_opens h) (phrase (front-exprs i x) (token (flat c refl) (phrase (front-expr (i + 1) y) (token (brace_closes d) (whole (λ r _ q _ p. IsPrimary.list_with_tail h p c q d))))))
  front-primary i (IsPrimary.parentheses h x c) = token (paren_opens h) (phrase (front-expr (i + 1) x) (token (paren_closes c) (whole (λ r _ p. IsPrimary.parentheses h p c))))

  front-listed : (i : ℕ) {close : TokenKind} {ts rest : List Token} {es : List PExpr} → Passes (i + 1) i close → IsListed close ts es rest → Front (i + 1) i (λ us r. IsListed close us es r) ts rest
  front-listed i is (IsListed.nothing h) = token (at h is) (whole (λ r. IsListed.nothing h))
  front-listed i is (IsListed.some x h) = phrase (front-exprs i x) (token (at h is) (whole (λ r _ p. IsListed.some p h)))

  -- in brackets
  front-exprs : (i : ℕ) {ts rest : List Token} {es : List PExpr} → IsExprs ts es rest → Front (i + 1) (i + 1) (λ us r. IsExprs us es r) ts rest
  front-exprs i (IsExprs.exprs x y) = phrase (front-expr (i + 1) x) (phrase (front-more i y) (whole (λ r _ q _ p. IsExprs.exprs p q)))

  front-more : (i : ℕ) {a es : List PExpr} {ts rest : List Token} → IsMoreExprs a ts es rest → Front (i + 1) (i + 1) (λ us r. IsMoreExprs a us es r) ts rest
  front-more i IsMoreExprs.no_more_exprs = whole (λ r. IsMoreExprs.no_more_exprs)
  front-more i (IsMoreExprs.more_exprs h x y) = token (comma_passes i h) (phrase (front-expr (i + 1) x) (phrase (front-more i y) (whole (λ r _ q _ p. IsMoreExprs.more_exprs h p q))))

mutual
  front-cond : (i : ℕ) {ts rest : List Token} {c : PCond} → IsCond ts c rest → Front i i (λ us r. IsCond us c r) ts rest
  front-cond i (IsCond.any (IsAlternatives.alternatives x y)) = phrase (front-both i x) (phrase (front-alternatives i y) (whole (λ r _ q _ p. IsCond.any (IsAlternatives.alternatives p q))))

  front-alternatives : (i : ℕ) {a c : List (List PSimple)} {ts rest : List Token} → IsMoreAlternatives a ts c rest → Front i i (λ us r. IsMoreAlternatives a us c r) ts rest
  front-alternatives i IsMoreAlternatives.no_more_alternatives = whole (λ r. IsMoreAlternatives.no_more_alternatives)
  front-alternatives i (IsMoreAlternatives.more_alternatives h x y) = token (flat h refl) (phrase (front-both i x) (phrase (front-alternatives i y) (whole (λ r _ q _ p. IsMoreAlternatives.more_alternatives h p q))))

  front-both : (i : ℕ) {ts rest : List Token} {c : List PSimple} → IsBoth ts c rest → Front i i (λ us r. IsBoth us c r) ts rest
  front-both i (IsBoth.both x y) = phrase (front-simple i x) (phrase (front-more_both i y) (whole (λ r _ q _ p. IsBoth.both p q)))

  front-more_both : (i : ℕ) {a c : List PSimple} {ts rest : List Token} → IsMoreBoth a ts c rest → Front i i (λ us r. IsMoreBoth a us c r) ts rest
  front-more_both i IsMoreBoth.no_more_both = whole (λ r. IsMoreBoth.no_more_both)
  front-more_both i (IsMoreBoth.more_both h x y) = token (flat h refl) (phrase (front-simple i x) (phrase (front-more_both i y) (whole (λ r _ q _ p. IsMoreBoth.more_both h p q))))

  front-simple : (i : ℕ) {ts rest : List Token} {c : PSimple} → IsSimple ts c rest → Front i i (λ us r. IsSimple us c r) ts rest
  front-simple i (IsSimple.bare x) = phrase (front-expr i x) (whole (λ r _ p. IsSimple.bare p))
  front-simple i (IsSimple.compare x is y) = phrase (front-expr i x) (token (comparison is) (phrase (front-expr i y) (whole (λ r _ q _ p. IsSimple.compare p is q))))
  front-simple i (IsSimple.negation h o x c) = token (flat h refl) (token (paren_opens o) (phrase (front-cond (i + 1) x) (token (paren_closes c) (whole (λ r _ p. IsSimple.negation h o p c)))))

front-call : (i : ℕ) {ts rest : List Token} {c : PName × List PExpr} → IsCall ts c rest → Front i i (λ us r. IsCall us c r) ts rest
front-call i (IsCall.call h o l) = token (flat h refl) (token (paren_opens o) (phrase (front-listed i (paren_closes refl) l) (whole (λ r _ p. IsCall.call h o p))))

pub front-inscribed : (i : ℕ) {ts rest : List Token} {f : PInscribed} → IsInscribed ts f rest → Front i i (λ us r. IsInscribed us f r) ts rest
front-inscribed i (IsInscribed.plain_arc a h) = token (arc a) (token (flat h refl) (whole (λ r. IsInscribed.plain_arc a h)))
front-inscribed i (IsInscribed.arc a h c x) = token (arc a) (token (flat h refl) (token (flat c refl) (phrase (front-expr i x) (whole (λ r _ p. IsInscribed.arc a h c p)))))
front-inscribed i (IsInscribed.guard h x) = token (flat h refl) (phrase (front-cond i x) (whole (λ r _ p. IsInscribed.guard h p)))
front-inscribed i (IsInscribed.print h p x) = token (flat h refl) (token (flat p refl) (phrase (front-expr i x) (whole (λ r _ q. IsInscribed.print h p q))))
front-inscribed i (IsInscribed.set h n q x) = token (flat h refl) (token (flat n refl) (token (flat q refl) (phrase (front-expr i x) (whole (λ r _ p. IsInscribed.set h n q p)))))
front-inscribed i (IsInscribed.uplink h x) = token (flat h refl) (phrase (front-call i x) (whole (λ r _ p. IsInscribed.uplink h p)))
front-inscribed i (IsInscribed.creation h c n m) = token (flat h refl) (token (flat c refl) (token (flat n refl) (token (flat m refl) (whole (λ r. IsInscribed.creation h c n m)))))
front-inscribed i (IsInscribed.downlink a h x) = token (target a) (token (flat h refl) (phrase (front-call i x) (whole (λ r _ p. IsInscribed.downlink a h p))))
front-inscribed i (IsInscribed.equality x h y) = phrase (front-expr i x) (token (flat h refl) (phrase (front-expr i y) (whole (λ r _ q _ p. IsInscribed.equality p h q))))
