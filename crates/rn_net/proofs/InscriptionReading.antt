-- What the reading of the inscriptions before a semicolon says of a text.
use Rattle.rn_net.proofs.Names.{◌≡◌, ℕ, ◌+◌, ◌<◌, ◌≤◌, ◌⊎◌, inl, inr, List, [], ◌∷◌, ◌++◌, length, drop, refl, sym, ◌∙◌, ap, subst, arith, Ok, Err, Spot, Token, Name, Word, ArcKind, Phrases, Then, Sort, done, close_brace, colon, comma, arc_of, IsNotNextKind, Count, at_first, count_after, IsWholeExpr, IsReading, OneExpression, OneInscription, ReadFault, PExpr, PName, PInscribed, PInscription, IsExpr, IsTerms, IsProduct, IsFactors, IsUnary, IsPrimary, IsExprs, IsMoreExprs, IsInscribed, IsInscription, name_at, semicolon, AreInscribed, arc_with, further_arc, AreInscribedUpTo, IsOpen, NotOpen, EndsStatement, Region, between, inscribing, Stage, Fails, HasNext, Refuses, any, and_then, append-nil}
use Rattle.std.proofs.Common.{map}
use Rattle.std.specs.Prelude.{Some}
use Rattle.rn_inscript.specs.declared.inscriptions.PInscribed.TheVariants as I
use Rattle.rn_net.proofs.Sorts.{kind_then, kind_read, kind_stuck, tell_apart}
use Rattle.rn_net.proofs.Steps.{begin, change, same_end, then_read, then_fails}
use Rattle.rn_net.proofs.Rows.{Row, row_on, row_comma_from}
use Rattle.rn_net.proofs.Fronts.{AreInside, front-expr, front-inscribed}
use Rattle.rn_net.proofs.Openings.{IsOut, unique, fresh_between, fresh_first, opens_none, Cut, Opening, opening_read, opening_fails}

-- an inscription has a token
some-primary : {ts rest : List Token} {e : PExpr} → IsPrimary ts e rest → ts ≡ [] → ⊥
some-primary (IsPrimary.number h) is = cc
some-primary (IsPrimary.text h) is = cc
some-primary (IsPrimary.name h) is = cc
some-primary (IsPrimary.this h) is = cc
some-primary (IsPrimary.step h u v) is = cc
some-primary (IsPrimary.tuple h l) is = cc
some-primary (IsPrimary.list h l) is = cc
some-primary (IsPrimary.list_with_tail h x c y d) is = cc
some-primary (IsPrimary.parentheses h x c) is = cc

some-unary : {ts rest : List Token} {e : PExpr} → IsUnary ts e rest → ts ≡ [] → ⊥
some-unary (IsUnary.negative h x) is = cc
some-unary (IsUnary.primary x) is = some-primary x is

some-expr : {ts rest : List Token} {e : PExpr} → IsExpr ts e rest → ts ≡ [] → ⊥
some-expr (IsExpr.sum (IsProduct.product x y) z) is = some-unary x is

some-inscribed : {ts rest : List Token} {f : PInscribed} → IsInscribed ts f rest → ts ≡ [] → ⊥
some-inscribed (IsInscribed.plain_arc a h) is = cc
some-inscribed (IsInscribed.arc a h i x) is = cc
some-inscribed (IsInscribed.guard h x) is = cc
some-inscribed (IsInscribed.print h i x) is = cc
some-inscribed (IsInscribed.set h i j x) is = cc
some-inscribed (IsInscribed.uplink h x) is = cc
some-inscribed (IsInscribed.creation h i j k) is = cc
some-inscribed (IsInscribed.downlink a h x) is = cc
some-inscribed (IsInscribed.equality x h y) is = some-expr x is

-- expressions between which commas stand, and the semicolon after them
abbrev pub expr_sort : Sort PExpr
expr_sort = record { is = IsExpr; ends = (any (Name []) ∷ [], _, λ rest. IsExpr.sum (IsProduct.product (IsUnary.primary (IsPrimary.name refl)) IsFactors.no_more_factors) IsTerms.no_more_terms) }

pub exprs-split : {all es : List PExpr} {ts rest : List Token} → IsMoreExprs all ts es rest →
    ((es ≡ all) × (rest ≡ ts)) ⊎ ((t : Token) × (us : List Token) × (ts ≡ t ∷ us) × (t.kind ≡ comma) × Then IsExpr (λ e. IsMoreExprs (all ++ e ∷ [])) us es rest)
exprs-split IsMoreExprs.no_more_exprs = inl (refl, refl)
exprs-split (IsMoreExprs.more_exprs h x m) = inr (_, _, refl, h, (_, _, x, m))

pub exprs-part : {es : List PExpr} {ts rest : List Token} → IsExprs ts es rest → Then IsExpr (λ e. IsMoreExprs (e ∷ [])) ts es rest
exprs-part (IsExprs.exprs x m) = (_, _, x, m)

abbrev pub expr_row : Row expr_sort IsExprs IsMoreExprs
expr_row = record {
  nothing = λ all ts. IsMoreExprs.no_more_exprs;
  on = λ h x m. IsMoreExprs.more_exprs h x m;
  split = λ x. exprs-split x;
  join = λ x m. IsExprs.exprs x m;
  part = λ x. exprs-part x;
}

-- the other inscriptions of an arc after those so far
abbrev pub further_on : List PExpr → Sort (List PExpr)
further_on all = row_on expr_row semicolon all

abbrev pub further_next : List PExpr → Sort (List PExpr)
further_next all = and_then expr_sort (λ e. further_on (all ++ e ∷ []))

semicolon-comma : semicolon ≡ comma → ⊥
semicolon-comma h = tell_apart semicolon comma h (λ e. omega (arith, e))

-- what comes before them begins with a comma or a semicolon
pub record Out (ts : List Token) : Type 0 where
  pub end : Token
  pub others : List Token
  pub parts : ts ≡ end ∷ others
  pub ends : IsOut end.kind

further-out : {all es : List PExpr} {ts mid rest : List Token} {u : Token} → IsMoreExprs all ts es mid → mid ≡ u ∷ rest → u.kind ≡ semicolon → Out ts
further-out {ts = ts} {rest = rest} {u = u} x is h = elim (exprs-split x) as (λ w. Out ts) [
  | inl d ↦ record { end = u; others = rest; parts = sym d.1 ∙ is; ends = inl h }
  | inr g ↦ record { end = g.0; others = g.1; parts = g.2; ends = inr g.3 }
]

-- an expression, from one among tokens, and back
expr-whole : {ts rest : List Token} {e : PExpr} (x : IsExpr ts e rest) → IsExpr (front-expr 0 x).front e []
expr-whole {e = e} x = let f = front-expr 0 x in subst (λ us. IsExpr us e []) (append-nil f.front) (f.on [])

expr-inside : (p : List Token) (e : PExpr) → IsExpr p e [] → AreInside 0 0 p
expr-inside p e x = let f = front-expr 0 x in subst (AreInside 0 0) (sym (f.parts ∙ append-nil f.front)) f.inside

expr-on : (p us : List Token) (e : PExpr) → IsExpr p e [] → IsExpr (p ++ us) e us
expr-on p us e x = let f = front-expr 0 x in subst (λ vs. IsExpr (vs ++ us) e us) (sym (f.parts ∙ append-nil f.front)) (f.on us)

pub expr_opening : OneExpression → (all : List PExpr) → Opening IsWholeExpr (further_next all) (λ p e. further_on (all ++ e ∷ []))
expr_opening law all = record {
  inside = expr-inside;
  one = law;
  some = λ p e x. some-expr x;
  join = λ p us e b rest x y. (e, us, expr-on p us e x, y);
  split = λ ts b rest w.
      let f = front-expr 0 w.2 in
      let y = w.3 in
      let o = further-out y.2 y.3.1 y.3.2 in record {
        part = f.front;
        item = w.0;
        end = o.end;
        others = o.others;
        parts = f.parts ∙ ap (λ us. f.front ++ us) o.parts;
        ends = o.ends;
        whole = expr-whole w.2;
        goes = subst (λ us. (further_on (all ++ w.0 ∷ [])).is us b rest) o.parts y;
      };
}

-- inscriptions before a semicolon: an arc with several has its own in the text
pub record Explicit (ts : List Token) (kind : ArcKind) (place : PName) (e : PExpr) : Type 0 where
  pub t : Token
  pub u : Token
  pub v : Token
  pub us : List Token
  pub p : List ℕ
  pub parts : ts ≡ t ∷ u ∷ v ∷ us
  pub is_arc : arc_of t.kind ≡ Some kind
  pub is_name : u.kind ≡ Name p
  pub is_colon : v.kind ≡ colon
  pub stands : place ≡ name_at u.spot p
  pub expr : IsExpr us e []

explicit : {ts : List Token} {form : PInscribed} (kind : ArcKind) (place : PName) (e : PExpr) → IsInscribed ts form [] → 2 < length ts → form ≡ I.Arc kind place (Some e) → Explicit ts kind place e
explicit kind place e (IsInscribed.plain_arc a h) long is = absurd (omega (arith, long))
explicit kind place e (IsInscribed.arc {t = t} {u = u} {v = v} {ts = us} {kind = k} {p = p} {e = d} a h c x) long is = record {
  t = t;
  u = u;
  v = v;
  us = us;
  p = p;
  parts = refl;
  is_arc = a ∙ ap Some (let f : k ≡ kind = cc in f);
  is_name = h;
  is_colon = c;
  stands = (let f : place ≡ name_at u.spot p = cc in f);
  expr = subst (λ w. IsExpr us w []) (let f : d ≡ e = cc in f) x;
}
explicit kind place e (IsInscribed.guard h x) long is = absurd (let f = is in cc)
explicit kind place e (IsInscribed.print h i x) long is = absurd (let f = is in cc)
explicit kind place e (IsInscribed.set h i j x) long is = absurd (let f = is in cc)
explicit kind place e (IsInscribed.uplink h x) long is = absurd (let f = is in cc)
explicit kind place e (IsInscribed.creation h i j k) long is = absurd (let f = is in cc)
explicit kind place e (IsInscribed.downlink a h x) long is = absurd (let f = is in cc)
explicit kind place e (IsInscribed.equality x h y) long is = absurd (let f = is in cc)

-- the semicolon after an inscription, or the other inscriptions of an arc
abbrev pub alone_on : PInscription → Sort (List PInscription)
alone_on i = kind_then semicolon (λ s. done (i ∷ []))

abbrev pub arcs_of : PInscription → ArcKind → PName → List PExpr → List PInscription
arcs_of i kind place more = i ∷ map (further_arc kind place) more

abbrev pub arcs_on : PInscription → ArcKind → PName → Sort (List PInscription)
arcs_on i kind place = and_then (further_on []) (λ more. done (arcs_of i kind place more))

abbrev pub Onward : ℕ → List Token → PInscription → Phrases (List PInscription)
Onward notation p i ts b rest = (alone_on i).is ts b rest
    ⊎ ((kind : ArcKind) × (place : PName) × IsOpen notation (length p) i kind place × (arcs_on i kind place).is ts b rest)

abbrev pub onward : ℕ → List Token → PInscription → Sort (List PInscription)
onward notation p i = let y = (alone_on i).ends in record { is = Onward notation p i; ends = (y.0, y.1, λ rest. inl (y.2 rest)) }

form-inside : (p : List Token) (i : PInscription) → IsInscription p i → AreInside 0 0 p
form-inside p i (IsInscription.inscription x) = let f = front-inscribed 0 x in subst (AreInside 0 0) (sym (f.parts ∙ append-nil f.front)) f.inside

pub form-some : (p : List Token) (i : PInscription) → IsInscription p i → p ≡ [] → ⊥
form-some p i (IsInscription.inscription x) is = let f = is in cc

form-join : (notation : ℕ) (p us : List Token) (i : PInscription) (b : List PInscription) (rest : List Token) → IsInscription p i → Onward notation p i us b rest → AreInscribedUpTo notation (p ++ us) b rest
form-join notation p us i b rest (IsInscription.inscription {t = t} {ts = ts} {form = form} x) (inl y) =
    let f = front-inscribed 0 x in
    let same : f.front ≡ t ∷ ts = sym (f.parts ∙ append-nil f.front) in
    (i-of ∷ [], us, AreInscribed.one (subst (λ vs. IsInscribed (vs ++ us) form us) same (f.on us)), (y.0, y.2 ∙ ap (λ vs. y.0 ∷ vs) (sym y.4.1), y.3, y.4.0))
  where
    i-of : PInscription
    i-of = record { form = form; spot = t.spot }
form-join notation p us i b rest (IsInscription.inscription {t = t} {ts = ts} {form = form} x) (inr y) =
    let r = y.2 in
    let z = y.3 in
    let m = z.2 in
    let e = explicit y.0 y.1 r.inscription x r.long r.is in
    let here : t ≡ e.t = let f = e.parts in cc in
    let whole : arc_with y.0 (name_at e.u.spot e.p) e.t.spot r.inscription ∷ map (further_arc y.0 (name_at e.u.spot e.p)) z.0 ≡ arcs_of (record { form = form; spot = t.spot }) y.0 y.1 z.0 =
    ap (λ n. arc_with y.0 n e.t.spot r.inscription ∷ map (further_arc y.0 n) z.0) (sym e.stands)
    ∙ ap (λ s. arc_with y.0 y.1 s r.inscription ∷ map (further_arc y.0 y.1) z.0) (ap (λ w. w.spot) (sym here))
    ∙ ap (λ g. (record { form = g; spot = t.spot }) ∷ map (further_arc y.0 y.1) z.0) (sym r.is) in (
      arcs_of (record { form = form; spot = t.spot }) y.0 y.1 z.0,
      m.1,
      subst (λ all. AreInscribed notation ((t ∷ ts) ++ us) all m.1) whole
          (subst (λ vs. AreInscribed notation (vs ++ us) (arc_with y.0 (name_at e.u.spot e.p) e.t.spot r.inscription ∷ map (further_arc y.0 (name_at e.u.spot e.p)) z.0) m.1) (sym e.parts)
          (AreInscribed.several r.second e.is_arc e.is_name e.is_colon (expr-on e.us us r.inscription e.expr) (subst (λ w. IsMoreExprs [] us w m.1) (sym m.3.3) m.2))),
      (m.3.0, m.3.1 ∙ ap (λ vs. m.3.0 ∷ vs) (sym z.3.1), m.3.2, z.3.0),
    )

-- an inscription alone
alone : (f : List Token) (t : Token) (us more : List Token) {form : PInscribed} → t ∷ us ≡ f ++ more → IsInscribed f form [] → IsInscription f (record { form = form; spot = t.spot })
alone [] t us more is x = absurd (some-inscribed x refl)
alone (v ∷ f) t us more {form = form} is x = subst (λ s. IsInscription (v ∷ f) (record { form = form; spot = s })) (ap (λ w. w.spot) (let h : v ≡ t = cc in h)) (IsInscription.inscription x)

form-split : (notation : ℕ) (ts : List Token) (b : List PInscription) (rest : List Token) → AreInscribedUpTo notation ts b rest → Cut IsInscription (onward notation) ts b rest
form-split notation ts b rest w = by w.2 w.3.1 w.3.2 w.3.3
  where
    by : {ts mid : List Token} {all : List PInscription} {u : Token} → AreInscribed notation ts all mid → mid ≡ u ∷ rest → u.kind ≡ semicolon → b ≡ all → Cut IsInscription (onward notation) ts b rest
    by {u = u} (AreInscribed.one {t = t} {ts = ts} {form = form} x) is h same =
        let f = front-inscribed 0 x in record {
          part = f.front;
          item = record { form = form; spot = t.spot };
          end = u;
          others = rest;
          parts = f.parts ∙ ap (λ us. f.front ++ us) is;
          ends = inl h;
          whole = alone f.front t ts _ f.parts (subst (λ us. IsInscribed us form []) (append-nil f.front) (f.on []));
          goes = inl (u, rest, refl, h, (same, refl));
        }
    by {u = u} (AreInscribed.several {t = t} {u = n} {v = v} {ts = ts} {mid = from} {rest = mid} {kind = kind} {p = p} {e = e} {more = more} second a k c x m) is h same =
        let f = front-expr 0 x in
        let o = further-out m is h in record {
          part = t ∷ n ∷ v ∷ f.front;
          item = arc_with kind (name_at n.spot p) t.spot e;
          end = o.end;
          others = o.others;
          parts = ap (λ us. t ∷ n ∷ v ∷ us) (f.parts ∙ ap (λ us. f.front ++ us) o.parts);
          ends = o.ends;
          whole = IsInscription.inscription (IsInscribed.arc a k c (expr-whole x));
          goes = subst (λ us. Onward notation (t ∷ n ∷ v ∷ f.front) (arc_with kind (name_at n.spot p) t.spot e) us b rest) o.parts
              (inr (
                kind,
                name_at n.spot p,
                record { inscription = e; second = second; long = omega arith; is = refl },
                (more, rest, (more, mid, m, (u, is, h, refl)), (same, refl)),
              ));
        }

abbrev pub statement_sort : ℕ → Sort (List PInscription)
statement_sort notation = record {
  is = AreInscribedUpTo notation;
  ends = (any (Word 5) ∷ any (Name []) ∷ any semicolon ∷ [], _, λ rest. (_, any semicolon ∷ rest, AreInscribed.one (IsInscribed.plain_arc refl refl), (any semicolon, refl, refl, refl)));
}

statement_begun : (notation : ℕ) (tokens : List Token) (at : ℕ) → Stage (AreInscribedUpTo notation) (drop at tokens) between (statement_sort notation) (drop at tokens) between
statement_begun notation tokens at = begin (statement_sort notation) (drop at tokens) between (λ ts e rest x. x) (λ ts e rest alike x. x)

pub form_opening : OneInscription → (notation : ℕ) → Opening IsInscription (statement_sort notation) (onward notation)
form_opening law notation = record {
  inside = form-inside;
  one = law;
  some = form-some;
  join = form-join notation;
  split = form-split notation;
}

-- an inscription is read
pub statement_read : OneInscription → {i : PInscription} (notation : ℕ) (tokens : List Token) (at end : ℕ) → IsNotNextKind tokens at close_brace → (r : IsReading IsInscription tokens at i end) →
    Stage (AreInscribedUpTo notation) (drop at tokens) between (onward notation r.taken i) (drop end tokens) (inscribing 0 (count_after at_first r.taken))
statement_read law notation tokens at end other r = opening_read (form_opening law notation) tokens at end (statement_begun notation tokens at) r
    (fresh_between 0 r.taken (form-inside r.taken _ r.whole) (opens_none tokens at r.taken r.longest.left r.longest.parts other))

-- no inscription is read
pub statement_fails : OneInscription → (notation : ℕ) (tokens : List Token) (at : ℕ) (e : ReadFault) → at ≤ length tokens → IsNotNextKind tokens at close_brace → Refuses IsInscription tokens at e →
    Fails (AreInscribedUpTo notation) (drop at tokens) between (length tokens) e
statement_fails law notation tokens at e inside other x = opening_fails (form_opening law notation) tokens at e inside (statement_begun notation tokens at)
    (λ j ts left is h. fresh_between j ts h (opens_none tokens at ts left is other)) x

-- it is alone
pub alone_open : {X : Phrases (List PInscription)} {start left : List Token} {first now : Region} (notation : ℕ) (p : List Token) (i : PInscription) →
    Stage X start first (onward notation p i) left now → NotOpen notation (length p) i → Stage X start first (alone_on i) left now
alone_open notation p i s none = change (alone_on i) s (λ ts b rest y. inl y) (λ ts b rest alike y. elim y as (λ w. (alone_on i).is ts b rest) [
  | inl x ↦ x
  | inr x ↦ absurd (none x.0 x.1 x.2)
])

-- it is an arc, and may have others
pub arcs_open : {X : Phrases (List PInscription)} {start left : List Token} {first now : Region} (notation : ℕ) (p : List Token) (i : PInscription) {kind : ArcKind} {place : PName} →
    Stage X start first (onward notation p i) left now → IsOpen notation (length p) i kind place → Stage X start first (arcs_on i kind place) left now
arcs_open notation p i {kind = kind} {place = place} s r = change (arcs_on i kind place) s (λ ts b rest y. inr (kind, place, r, y)) (λ ts b rest alike y. elim y as (λ w. (arcs_on i kind place).is ts b rest) [
  | inl x ↦ ([], x.1, ([], ts, IsMoreExprs.no_more_exprs, (x.0, x.2, x.3, refl)), x.4)
  | inr x ↦
      let a : x.0 ≡ kind = let f = x.2.is in let g = r.is in cc in
      let c : x.1 ≡ place = let f = x.2.is in let g = r.is in cc in
      subst (λ k. (arcs_on i k place).is ts b rest) a (subst (λ n. (arcs_on i x.0 n).is ts b rest) c x.3)
])

-- what follows it up to the semicolon is read, or isn't
pub ends_read : {X : Phrases (List PInscription)} {start : List Token} {first : Region} {c : Count} (notation : ℕ) (p : List Token) (i : PInscription) (tokens : List Token) (at end : ℕ) (others : List PInscription) →
    Stage X start first (onward notation p i) (drop at tokens) (inscribing 0 c) → EndsStatement notation (length p) i tokens at (Ok (others, end)) → Stage X start first (done (i ∷ others)) (drop end tokens) between
ends_read {X = X} {start = start} {first = first} {c = c} notation p i tokens at end others s x = elim x as (λ w. Stage X start first (done (i ∷ others)) (drop end tokens) between) [
  | inl a ↦ same_end (ap (λ us. i ∷ us) a.1.0) (kind_read (λ spot. done (i ∷ [])) tokens at end between (alone_open notation p i s a.0) a.1.1.1 a.1.2 refl refl)
  | inr b ↦ same_end (ap (λ us. i ∷ us) b.3.1) (then_read (further_on []) (λ more. done (arcs_of i b.0 b.1 more)) (arcs_open notation p i s b.2) (b.3.2 c))
]

pub ends_fail : {X : Phrases (List PInscription)} {start : List Token} {first : Region} {c : Count} (notation : ℕ) (p : List Token) (i : PInscription) (tokens : List Token) (at : ℕ) (e : ReadFault) →
    Stage X start first (onward notation p i) (drop at tokens) (inscribing 0 c) → at ≤ length tokens → EndsStatement notation (length p) i tokens at (Err e) → Fails X start first (length tokens) e
ends_fail {X = X} {start = start} {first = first} {c = c} notation p i tokens at e s inside x = elim x as (λ w. Fails X start first (length tokens) e) [
  | inl a ↦ subst (Fails X start first (length tokens)) (sym a.1.1) (kind_stuck (λ spot. done (i ∷ [])) tokens at (alone_open notation p i s a.0) inside a.1.0)
  | inr b ↦ then_fails (further_on []) (λ more. done (arcs_of i b.0 b.1 more)) (length tokens) e (arcs_open notation p i s b.2) (b.3 c)
]

-- another inscription of an arc is read, or isn't
pub further_read : OneExpression → {X : Phrases (List PExpr)} {start : List Token} {first : Region} (all : List PExpr) {e : PExpr} (tokens : List Token) (at end : ℕ) →
    Stage X start first (further_next all) (drop at tokens) (inscribing 0 at_first) → (r : IsReading IsWholeExpr tokens at e end) →
    Stage X start first (further_on (all ++ e ∷ [])) (drop end tokens) (inscribing 0 (count_after at_first r.taken))
further_read law all {e = e} tokens at end s r = opening_read (expr_opening law all) tokens at end s r (fresh_first 0 r.taken (expr-inside r.taken e r.whole))

pub further_fails : OneExpression → {X : Phrases (List PExpr)} {start : List Token} {first : Region} (all : List PExpr) (tokens : List Token) (at : ℕ) (e : ReadFault) → at ≤ length tokens →
    Stage X start first (further_next all) (drop at tokens) (inscribing 0 at_first) → Refuses IsWholeExpr tokens at e → Fails X start first (length tokens) e
further_fails law all tokens at e inside s x = opening_fails (expr_opening law all) tokens at e inside s (λ j ts left is h. fresh_first j ts h) x

-- a comma comes before it
pub further_comma : {X : Phrases (List PExpr)} {start : List Token} {first : Region} {spot : Spot} {all : List PExpr} {c : Count} (tokens : List Token) (at next : ℕ) →
    Stage X start first (further_on all) (drop at tokens) (inscribing 0 c) → HasNext tokens at comma spot → next ≡ at + 1 →
    Stage X start first (further_next all) (drop next tokens) (inscribing 0 at_first)
further_comma tokens at next s here there = row_comma_from expr_row semicolon tokens at next (inscribing 0 at_first) semicolon-comma s here there refl refl

-- one statement up to its semicolon is one at most
one-more : OneExpression → {all a b : List PExpr} {ts r q r2 q2 : List Token} {u v : Token} → IsMoreExprs all ts a r → IsMoreExprs all ts b q → r ≡ u ∷ r2 → q ≡ v ∷ q2 → u.kind ≡ semicolon → v.kind ≡ semicolon → (a ≡ b) × (r ≡ q)
one-more law IsMoreExprs.no_more_exprs IsMoreExprs.no_more_exprs e f h k = (refl, refl)
one-more law {u = u} IsMoreExprs.no_more_exprs (IsMoreExprs.more_exprs {t = t} c x m) e f h k = absurd (semicolon-comma (sym h ∙ (let same : u ≡ t = cc in ap (λ w. w.kind) same) ∙ c))
one-more law {v = v} (IsMoreExprs.more_exprs {t = t} c x m) IsMoreExprs.no_more_exprs e f h k = absurd (semicolon-comma (sym k ∙ (let same : v ≡ t = cc in ap (λ w. w.kind) same) ∙ c))
one-more law {all = all} {b = b} {q = q} (IsMoreExprs.more_exprs {mid = mid} {e = d} c x m) (IsMoreExprs.more_exprs {mid = end} {e = g} i y n) e f h k =
    let o = further-out m e h in
    let p = further-out n f k in
    let s = front-expr 0 x in
    let z = front-expr 0 y in
    let same = unique 0 s.front z.front o.end p.end o.others p.others s.inside z.inside o.ends p.ends (sym (s.parts ∙ ap (λ us. s.front ++ us) o.parts) ∙ (z.parts ∙ ap (λ us. z.front ++ us) p.parts)) in
    let from : end ≡ mid = p.parts ∙ sym same.1 ∙ sym o.parts in
    let item : g ≡ d = law s.front g d (subst (λ us. IsExpr us g []) (sym same.0) (expr-whole y)) (expr-whole x) in
    one-more law m (subst (λ us. IsMoreExprs (all ++ d ∷ []) us b q) from (subst (λ w. IsMoreExprs (all ++ w ∷ []) end b q) item n)) e f h k

alone-arcs : {ts : List Token} {i : PInscription} {kind : ArcKind} {place : PName} {a b : List PInscription} {r q : List Token} → (alone_on i).is ts a r → (arcs_on i kind place).is ts b q → (a ≡ b) × (r ≡ q)
alone-arcs {i = i} {kind = kind} {place = place} x y = elim (exprs-split y.2.2) [
  | inl d ↦ (x.4.0 ∙ ap (arcs_of i kind place) (sym d.0 ∙ sym y.2.3.3) ∙ sym y.3.0, x.4.1 ∙ (let same : x.1 ≡ y.1 = let e = x.2 in let f = y.2.3.1 in let g = d.1 in cc in same) ∙ sym y.3.1)
  | inr g ↦ absurd (semicolon-comma (sym x.3 ∙ (let same : x.0 ≡ g.0 = let e = x.2 in let f = g.2 in cc in ap (λ w. w.kind) same) ∙ g.3))
]

one-onward : OneExpression → (notation : ℕ) (p : List Token) (i : PInscription) {ts : List Token} {a b : List PInscription} {r q : List Token} → Onward notation p i ts a r → Onward notation p i ts b q → (a ≡ b) × (r ≡ q)
one-onward law notation p i (inl x) (inl y) = (x.4.0 ∙ sym y.4.0, x.4.1 ∙ (let same : x.1 ≡ y.1 = let e = x.2 in let f = y.2 in cc in same) ∙ sym y.4.1)
one-onward law notation p i (inl x) (inr y) = alone-arcs x (y.3)
one-onward law notation p i (inr x) (inl y) = let s = alone-arcs y (x.3) in (sym s.0, sym s.1)
one-onward law notation p i (inr x) (inr y) =
    let k : x.0 ≡ y.0 = let f = x.2.is in let g = y.2.is in cc in
    let n : x.1 ≡ y.1 = let f = x.2.is in let g = y.2.is in cc in
    let c = x.3 in
    let d = y.3 in
    let m = one-more law c.2.2 d.2.2 c.2.3.1 d.2.3.1 c.2.3.2 d.2.3.2 in
    let more : c.0 ≡ d.0 = c.2.3.3 ∙ m.0 ∙ sym d.2.3.3 in
    let end : c.1 ≡ d.1 = let e = c.2.3.1 in let f = d.2.3.1 in let g = m.1 in cc in
    (c.3.0 ∙ ap (arcs_of i x.0 x.1) more ∙ ap (λ z. arcs_of i z x.1 d.0) k ∙ ap (λ z. arcs_of i y.0 z d.0) n ∙ sym d.3.0, c.3.1 ∙ end ∙ sym d.3.1)

-- what comes before a semicolon is given by the tokens
pub one_statement : OneInscription → OneExpression → (notation : ℕ) {ts : List Token} {a b : List PInscription} {r q : List Token} → AreInscribedUpTo notation ts a r → AreInscribedUpTo notation ts b q → (a ≡ b) × (r ≡ q)
one_statement law expr notation {ts = ts} {a = a} {b = b} {r = r} {q = q} x y =
    let c = form-split notation ts a r x in
    let d = form-split notation ts b q y in
    let same = unique 0 c.part d.part c.end d.end c.others d.others (form-inside c.part c.item c.whole) (form-inside d.part d.item d.whole) c.ends d.ends (sym c.parts ∙ d.parts) in
    let item : d.item ≡ c.item = law c.part d.item c.item (subst (λ us. IsInscription us d.item) (sym same.0) d.whole) c.whole in
    one-onward expr notation c.part c.item c.goes (subst (λ us. Onward notation c.part c.item us b q) (sym same.1) (subst (λ i. Onward notation c.part i (d.end ∷ d.others) b q) item (subst (λ us. Onward notation us d.item (d.end ∷ d.others) b q) (sym same.0) d.goes)))
