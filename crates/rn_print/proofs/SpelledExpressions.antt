-- Where some tokens stand for an expression, its text is read back, beside these tokens.
use Rattle.std.proofs.Common.{◌≡◌, ℤ, List, [], ◌∷◌, ◌++◌, refl, sym, subst, append_assoc, ◌∙◌}
use Rattle.std.specs.List.{AllByRecursion}
use Rattle.std.proofs.lemmas.List.{append-nil}
use Rattle.rn_notation.specs.declared.token.Token.{Token}
use Rattle.rn_notation.specs.declared.token.TokenKind.{TokenKind}
use Rattle.rn_notation.specs.declared.token.TokenKind.TheVariants.{Number}
use Rattle.rn_inscript.specs.declared.exprs.PExpr.{PExpr, out-PExpr}
use Rattle.rn_inscript.specs.declared.exprs.PForm.TheVariants as F
use Rattle.rn_inscript.specs.Signs.{comma}
use Rattle.rn_inscript.specs.Expressions.{at_spot, IsExpr, IsTerms, IsProduct, IsFactors, IsUnary, IsPrimary, IsListed, IsExprs, IsMoreExprs}
use Rattle.rn_print.proofs.Atoms.{Legal}
use Rattle.rn_print.proofs.Separated.{Row, Listed}
use Rattle.rn_print.proofs.ExpressionBack.{Back, ProductBack, SumBack, Alone, back_product, product_sum, int_back, text_back, name_back, this_back, step_back, tuple_back, list_back, cons_back, neg_back}
use Rattle.rn_print.proofs.SumsBack.{sum_back, times_back}

-- each of these tokens may stand in a text
abbrev pub AllLegal : List Token → Type 0
AllLegal = AllByRecursion (λ t. Legal t.kind)

pub legal : {k l : TokenKind} → k ≡ l → Legal k → Legal l
legal e h = subst Legal e h

number_back : (t : Token) (ending : List Token) (z : ℤ) → t.kind ≡ Number z → Legal (Number z) →
    Back (at_spot t.spot (F.Int z)) (t ∷ ending) ending
number_back t ending z here (n, e, low) =
    subst (λ z. Back (at_spot t.spot (F.Int z)) (t ∷ ending) ending) (sym e)
    (int_back t ending n (subst (λ z. t.kind ≡ Number z) e here) low)

-- the items after those so far, each after a token of this kind
abbrev pub Others : {A : Type 0} → (A → List Token → List Token → Type 0) → TokenKind → List A →
    List A → List Token → List Token → Type 0
Others {A = A} I kind before all ts ending = (later : List A) × (all ≡ before ++ later) × Row I kind ts later ending

pub no_others : {A : Type 0} (I : A → List Token → List Token → Type 0) (kind : TokenKind)
    (all : List A) (ending : List Token) → Others I kind all all ending ending
no_others I kind all ending = ([], sym (append-nil all), Row.stop)

pub one_more : {A : Type 0} (I : A → List Token → List Token → Type 0) (before : List A) (item : A)
    {kind : TokenKind} {all : List A} {t : Token} {ts mid ending : List Token} → t.kind ≡ kind →
    I item ts mid → Others I kind (before ++ item ∷ []) all mid ending →
    Others I kind before all (t ∷ ts) ending
one_more I before item is one (later, same, row) =
    (item ∷ later, same ∙ append_assoc before (item ∷ []) later, Row.go is one row)

-- one item or more
abbrev pub Some_back : {A : Type 0} → (A → List Token → List Token → Type 0) → TokenKind → List A →
    List Token → List Token → Type 0
Some_back {A = A} I kind all ts ending =
    (first : A) × (later : List A) × (mid : List Token) × (all ≡ first ∷ later) × I first ts mid
    × Row I kind mid later ending

pub some_back : {A : Type 0} {I : A → List Token → List Token → Type 0} {kind : TokenKind}
    {all : List A} {first : A} {ts mid ending : List Token} → I first ts mid →
    Others I kind (first ∷ []) all mid ending → Some_back I kind all ts ending
some_back {first = first} {mid = mid} one (later, same, row) = (first, later, mid, same, one, row)

-- with the closing bracket
pub some_listed : {A : Type 0} {I : A → List Token → List Token → Type 0} {kind close : TokenKind}
    {all : List A} {u : Token} {ts ending : List Token} → Some_back I kind all ts (u ∷ ending) →
    u.kind ≡ close → Listed I kind close ts all ending
some_listed {I = I} {kind = kind} {close = close} {ts = ts} {ending = ending} (first, later, mid, same, one, row) is =
    subst (λ all. Listed I kind close ts all ending) (sym same) (Listed.some_in one row is)

mutual
  pub expr_back : {ts rest : List Token} {e : PExpr} → IsExpr ts e rest → AllLegal ts →
      SumBack e ts rest × AllLegal rest
  expr_back (IsExpr.sum {ts = ts} {mid = mid} {a = a} x m) h =
      let p = product_back x h in terms_back m (product_sum a ts mid p.0) p.1

  terms_back : {a e : PExpr} {start ts rest : List Token} → IsTerms a ts e rest →
      SumBack a start ts → AllLegal ts → SumBack e start rest × AllLegal rest
  terms_back IsTerms.no_more_terms back h = (back, h)
  terms_back {start = start} (IsTerms.more_terms {t = t} {ts = ts} {mid = mid} {op = op} {a = a} {b = b} is x m) back h =
      let p = product_back x h.1 in
      terms_back m (sum_back t op is (out-PExpr a).spot a b start ts mid back p.0) p.1

  product_back : {ts rest : List Token} {e : PExpr} → IsProduct ts e rest → AllLegal ts →
      ProductBack e ts rest × AllLegal rest
  product_back (IsProduct.product {ts = ts} {mid = mid} {a = a} x m) h =
      let p = unary_back x h in factors_back m (back_product a ts mid p.0) p.1

  factors_back : {a e : PExpr} {start ts rest : List Token} → IsFactors a ts e rest →
      ProductBack a start ts → AllLegal ts → ProductBack e start rest × AllLegal rest
  factors_back IsFactors.no_more_factors back h = (back, h)
  factors_back {start = start} (IsFactors.more_factors {t = t} {ts = ts} {mid = mid} {op = op} {a = a} {b = b} is x m) back h =
      let p = unary_back x h.1 in
      factors_back m (times_back t op is (out-PExpr a).spot a b start ts mid back p.0) p.1

  unary_back : {ts rest : List Token} {e : PExpr} → IsUnary ts e rest → AllLegal ts →
      Back e ts rest × AllLegal rest
  unary_back (IsUnary.negative {t = t} {ts = ts} {rest = rest} {e = e} is x) h =
      let p = unary_back x h.1 in (neg_back t e ts rest is p.0, p.1)
  unary_back (IsUnary.primary x) h = primary_back x h

  primary_back : {ts rest : List Token} {e : PExpr} → IsPrimary ts e rest → AllLegal ts →
      Back e ts rest × AllLegal rest
  primary_back (IsPrimary.number {t = t} {rest = rest} {n = n} is) h =
      (number_back t rest n is (legal is h.0), h.1)
  primary_back (IsPrimary.text {t = t} {rest = rest} {s = s} is) h =
      (text_back t rest s is (legal is h.0), h.1)
  primary_back (IsPrimary.name {t = t} {rest = rest} {s = s} is) h =
      (name_back t rest s is (legal is h.0), h.1)
  primary_back (IsPrimary.this {t = t} {rest = rest} is) h = (this_back t rest is, h.1)
  primary_back (IsPrimary.step {t = t} {u = u} {v = v} {rest = rest} is a b) h =
      (step_back t u v rest is a b, h.1.1.1)
  primary_back (IsPrimary.tuple {t = t} {ts = ts} {rest = rest} {es = es} is x) h =
      let p = listed_legal x h.1 in (tuple_back t es ts rest is p.0, p.1)
  primary_back (IsPrimary.list {t = t} {ts = ts} {rest = rest} {es = es} is x) h =
      let p = listed_legal x h.1 in (list_back t es ts rest is p.0, p.1)
  primary_back (IsPrimary.list_with_tail {t = t} {u = u} {v = v} {ts = ts} {us = us} {rest = rest} {es = es} {e = e} is x a y b) h =
      let p = exprs_back x h.1 in
      let q = expr_back y p.1.1 in (
        subst (λ es. Back (at_spot t.spot (F.Cons es e)) (t ∷ ts) rest) (sym p.0.3)
            (cons_back t u v p.0.0 p.0.1 e ts p.0.2 us rest is a b p.0.4 p.0.5 q.0.alone),
        q.1.1,
      )
  primary_back (IsPrimary.parentheses {t = t} {u = u} {rest = rest} is x a) h =
      let p = expr_back x h.1 in (p.0.wrapped t u rest refl is a, p.1.1)

  pub listed_legal : {close : TokenKind} {ts rest : List Token} {es : List PExpr} →
      IsListed close ts es rest → AllLegal ts → Listed Alone comma close ts es rest × AllLegal rest
  listed_legal (IsListed.nothing is) h = (Listed.none_in is, h.1)
  listed_legal (IsListed.some x is) h =
      let p = exprs_back x h in (some_listed p.0 is, p.1.1)

  exprs_back : {ts rest : List Token} {es : List PExpr} → IsExprs ts es rest → AllLegal ts →
      Some_back Alone comma es ts rest × AllLegal rest
  exprs_back (IsExprs.exprs x m) h =
      let p = expr_back x h in
      let q = more_back m p.1 in (some_back p.0.alone q.0, q.1)

  more_back : {before es : List PExpr} {ts rest : List Token} → IsMoreExprs before ts es rest →
      AllLegal ts → Others Alone comma before es ts rest × AllLegal rest
  more_back (IsMoreExprs.no_more_exprs {es = es} {rest = rest}) h = (no_others Alone comma es rest, h)
  more_back (IsMoreExprs.more_exprs {before = before} {e = e} is x m) h =
      let p = expr_back x h.1 in
      let q = more_back m p.1 in (one_more Alone before e is p.0.alone q.0, q.1)
