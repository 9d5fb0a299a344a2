-- The brackets of an expression that is read nest as deep as its tokens, and before each tail of a
-- list in it stands an element.
use Rattle.std.proofs.Common.{◌≡◌, ℕ, ℤ, ◌+◌, ◌≤◌, Bool, true, ◌&&◌, List, [], ◌∷◌, ◌++◌, map}
use Rattle.std.proofs.Common.{refl, ap, ◌∙◌, arith, length}
use Rattle.std.specs.Prelude.{suc, max, fold, nat_le}
use Rattle.std.specs.List.{AllByRecursion, list_all}
use Rattle.rn_items.proofs.Bools.{true_both}
use Rattle.rn_model.specs.declared.expr.OpKind.{OpKind}
use Rattle.rn_model.specs.declared.expr.Expr.{Expr, fold_out-Expr}
use Rattle.rn_model.specs.declared.expr.Expr.TheVariants as E
use Rattle.rn_model.specs.Kinds.{greatest, expr_depth, expr_depth_step}
use Rattle.rn_notation.specs.declared.token.Spot.{Spot}
use Rattle.rn_notation.specs.declared.token.Token.{Token}
use Rattle.rn_notation.specs.declared.token.TokenKind.{TokenKind}
use Rattle.rn_inscript.specs.declared.exprs.PExpr.{PExpr, out-PExpr, fold-roll-PExpr}
use Rattle.rn_inscript.specs.declared.exprs.PForm.{PForm, fold-PForm, fold_out-PForm}
use Rattle.rn_inscript.specs.declared.exprs.PForm.TheVariants as F
use Rattle.rn_inscript.specs.Expressions.{at_spot, IsExpr, IsTerms, IsProduct, IsFactors, IsUnary}
use Rattle.rn_inscript.specs.Expressions.{IsPrimary, IsListed, IsExprs, IsMoreExprs}
use Rattle.rn_numbered.specs.Numbered.{expr_of, expr_of_form}
use Rattle.rn_spelled.specs.WellFormed.{tails_step, tails_follow}
use Rattle.rn_numbered.proofs.NumberedForms.{Numbered, form_expr, expr-at}
use Rattle.rn_spelled.proofs.KindDepths.{push, from_zero}
use Rattle.std.proofs.lemmas.Bool.{le-leb}
use Rattle.rn_spelled.proofs.WithinLevels.{IsClosing, opening, closing, neither, Inscribed}
use Rattle.rn_spelled.proofs.WithinLevels.{inscribed_open, inscribed_close, inscribed_on}
use Rattle.rn_spelled.proofs.WithinLevels.{plus_neither, times_neither}

-- before each tail stands an element, and with n brackets around it the expression isn't too deep
pub record ExprFits (n : ℕ) (e : PExpr) : Type 0 where
  pub tails : tails_follow e ≡ true
  pub deep : (var : List ℕ → ℕ) → expr_depth (expr_of e var) + n ≤ 64

abbrev form_tails : PForm → Bool
form_tails = fold-PForm Bool Bool tails_step (λ e. e.form)

tails-at : (s : Spot) (f : PForm) → tails_follow (at_spot s f) ≡ form_tails f
tails-at s f =
    fold-roll-PExpr Bool Bool tails_step (λ e. e.form) (record { form = f; spot = s })

-- the form's tails and expression, by its parts
module _ (s : Spot) where
  tails-Int : (n : ℤ) → tails_follow (at_spot s (F.Int n)) ≡ true
  tails-Int n = tails-at s (F.Int n) ∙ fold_out-PForm Bool Bool tails_step (λ e. e.form) (F.Int n)
      ∙ rw (F.outs-Int n)

  tails-Text : (t : List ℕ) → tails_follow (at_spot s (F.Text t)) ≡ true
  tails-Text t = tails-at s (F.Text t)
      ∙ fold_out-PForm Bool Bool tails_step (λ e. e.form) (F.Text t) ∙ rw (F.outs-Text t)

  tails-Name : (t : List ℕ) → tails_follow (at_spot s (F.Name t)) ≡ true
  tails-Name t = tails-at s (F.Name t)
      ∙ fold_out-PForm Bool Bool tails_step (λ e. e.form) (F.Name t) ∙ rw (F.outs-Name t)

  tails-This : tails_follow (at_spot s F.This) ≡ true
  tails-This = tails-at s F.This ∙ fold_out-PForm Bool Bool tails_step (λ e. e.form) F.This
      ∙ rw F.outs-This

  tails-Step : tails_follow (at_spot s F.Step) ≡ true
  tails-Step = tails-at s F.Step ∙ fold_out-PForm Bool Bool tails_step (λ e. e.form) F.Step
      ∙ rw F.outs-Step

  tails-Tuple : (es : List PExpr) →
      tails_follow (at_spot s (F.Tuple es)) ≡ list_all (λ p. p) (map tails_follow es)
  tails-Tuple es = tails-at s (F.Tuple es)
      ∙ fold_out-PForm Bool Bool tails_step (λ e. e.form) (F.Tuple es) ∙ rw (F.outs-Tuple es)

  tails-List : (es : List PExpr) →
      tails_follow (at_spot s (F.List es)) ≡ list_all (λ p. p) (map tails_follow es)
  tails-List es = tails-at s (F.List es)
      ∙ fold_out-PForm Bool Bool tails_step (λ e. e.form) (F.List es) ∙ rw (F.outs-List es)

  tails-Cons : (es : List PExpr) (e : PExpr) →
      tails_follow (at_spot s (F.Cons es e))
      ≡ (nat_le 1 (length (map tails_follow es)) && list_all (λ p. p) (map tails_follow es)
      && tails_follow e)
  tails-Cons es e = tails-at s (F.Cons es e)
      ∙ fold_out-PForm Bool Bool tails_step (λ e. e.form) (F.Cons es e) ∙ rw (F.outs-Cons es e)

  tails-Neg : (e : PExpr) → tails_follow (at_spot s (F.Neg e)) ≡ tails_follow e
  tails-Neg e = tails-at s (F.Neg e)
      ∙ fold_out-PForm Bool Bool tails_step (λ e. e.form) (F.Neg e) ∙ rw (F.outs-Neg e)

  tails-Op : (op : OpKind) (a b : PExpr) →
      tails_follow (at_spot s (F.Op op a b)) ≡ (tails_follow a && tails_follow b)
  tails-Op op a b = tails-at s (F.Op op a b)
      ∙ fold_out-PForm Bool Bool tails_step (λ e. e.form) (F.Op op a b)
      ∙ rw (F.outs-Op op a b)

-- the expression that a form means
means : (s : Spot) (f : PForm) (var : List ℕ → ℕ) → expr_of (at_spot s f) var ≡ form_expr f var
means s f var = ap (λ g. g var) (expr-at s f)

module _ (s : Spot) (var : List ℕ → ℕ) where
  abbrev numbered : List PExpr → List Expr
  numbered es = map (λ part. part var) (map expr_of es)

  depth-Int : (n : ℤ) → expr_depth (expr_of (at_spot s (F.Int n)) var) ≡ 0
  depth-Int n =
      let e : form_expr (F.Int n) ≡ (λ var. E.Int n) =
      fold_out-PForm Numbered Numbered expr_of_form (λ e. e.form) (F.Int n)
      ∙ rw (F.outs-Int n) in
      ap expr_depth (means s (F.Int n) var ∙ ap (λ g. g var) e)
      ∙ fold_out-Expr ℕ expr_depth_step (E.Int n)
      ∙ rw (E.outs-Int n)

  depth-Text : (t : List ℕ) → expr_depth (expr_of (at_spot s (F.Text t)) var) ≡ 0
  depth-Text t =
      let e : form_expr (F.Text t) ≡ (λ var. E.Text t) =
      fold_out-PForm Numbered Numbered expr_of_form (λ e. e.form) (F.Text t)
      ∙ rw (F.outs-Text t) in
      ap expr_depth (means s (F.Text t) var ∙ ap (λ g. g var) e)
      ∙ fold_out-Expr ℕ expr_depth_step (E.Text t)
      ∙ rw (E.outs-Text t)

  depth-Name : (t : List ℕ) → expr_depth (expr_of (at_spot s (F.Name t)) var) ≡ 0
  depth-Name t =
      let e : form_expr (F.Name t) ≡ (λ var. E.Var (var t)) =
      fold_out-PForm Numbered Numbered expr_of_form (λ e. e.form) (F.Name t)
      ∙ rw (F.outs-Name t) in
      ap expr_depth (means s (F.Name t) var ∙ ap (λ g. g var) e)
      ∙ fold_out-Expr ℕ expr_depth_step (E.Var (var t))
      ∙ rw (E.outs-Var (var t))

  depth-This : expr_depth (expr_of (at_spot s F.This) var) ≡ 0
  depth-This =
      let e : form_expr F.This ≡ (λ var. E.This) =
      fold_out-PForm Numbered Numbered expr_of_form (λ e. e.form) F.This
      ∙ rw F.outs-This in
      ap expr_depth (means s F.This var ∙ ap (λ g. g var) e)
      ∙ fold_out-Expr ℕ expr_depth_step E.This
      ∙ rw E.outs-This

  depth-Step : expr_depth (expr_of (at_spot s F.Step) var) ≡ 0
  depth-Step =
      let e : form_expr F.Step ≡ (λ var. E.Step) =
      fold_out-PForm Numbered Numbered expr_of_form (λ e. e.form) F.Step
      ∙ rw F.outs-Step in
      ap expr_depth (means s F.Step var ∙ ap (λ g. g var) e)
      ∙ fold_out-Expr ℕ expr_depth_step E.Step
      ∙ rw E.outs-Step

  depth-Tuple : (es : List PExpr) →
      expr_depth (expr_of (at_spot s (F.Tuple es)) var)
      ≡ suc (greatest (map expr_depth (numbered es)))
  depth-Tuple es =
      let e : form_expr (F.Tuple es)
      ≡ (λ var. E.Tuple (map (λ part. part var) (map expr_of es))) =
      fold_out-PForm Numbered Numbered expr_of_form (λ e. e.form) (F.Tuple es)
      ∙ rw (F.outs-Tuple es) in
      ap expr_depth (means s (F.Tuple es) var ∙ ap (λ g. g var) e)
      ∙ fold_out-Expr ℕ expr_depth_step (E.Tuple (numbered es))
      ∙ rw (E.outs-Tuple (numbered es))

  depth-List : (es : List PExpr) →
      expr_depth (expr_of (at_spot s (F.List es)) var)
      ≡ suc (greatest (map expr_depth (numbered es)))
  depth-List es =
      let e : form_expr (F.List es)
      ≡ (λ var. E.List (map (λ part. part var) (map expr_of es))) =
      fold_out-PForm Numbered Numbered expr_of_form (λ e. e.form) (F.List es)
      ∙ rw (F.outs-List es) in
      ap expr_depth (means s (F.List es) var ∙ ap (λ g. g var) e)
      ∙ fold_out-Expr ℕ expr_depth_step (E.List (numbered es))
      ∙ rw (E.outs-List (numbered es))

  depth-Cons : (es : List PExpr) (x : PExpr) →
      expr_depth (expr_of (at_spot s (F.Cons es x)) var)
      ≡ suc (max (greatest (map expr_depth (numbered es))) (expr_depth (expr_of x var)))
  depth-Cons es x =
      let e : form_expr (F.Cons es x)
      ≡ (λ var. E.Cons (map (λ part. part var) (map expr_of es)) (expr_of x var)) =
      fold_out-PForm Numbered Numbered expr_of_form (λ e. e.form) (F.Cons es x)
      ∙ rw (F.outs-Cons es x) in
      ap expr_depth (means s (F.Cons es x) var ∙ ap (λ g. g var) e)
      ∙ fold_out-Expr ℕ expr_depth_step (E.Cons (numbered es) (expr_of x var))
      ∙ rw (E.outs-Cons (numbered es) (expr_of x var))

  depth-Neg : (x : PExpr) →
      expr_depth (expr_of (at_spot s (F.Neg x)) var) ≡ expr_depth (expr_of x var)
  depth-Neg x =
      let e : form_expr (F.Neg x) ≡ (λ var. E.Neg (expr_of x var)) =
      fold_out-PForm Numbered Numbered expr_of_form (λ e. e.form) (F.Neg x)
      ∙ rw (F.outs-Neg x) in
      ap expr_depth (means s (F.Neg x) var ∙ ap (λ g. g var) e)
      ∙ fold_out-Expr ℕ expr_depth_step (E.Neg (expr_of x var))
      ∙ rw (E.outs-Neg (expr_of x var))

  depth-Op : (op : OpKind) (a b : PExpr) →
      expr_depth (expr_of (at_spot s (F.Op op a b)) var)
      ≡ max (expr_depth (expr_of a var)) (expr_depth (expr_of b var))
  depth-Op op a b =
      let e : form_expr (F.Op op a b) ≡ (λ var. E.Op op (expr_of a var) (expr_of b var)) =
      fold_out-PForm Numbered Numbered expr_of_form (λ e. e.form) (F.Op op a b)
      ∙ rw (F.outs-Op op a b) in
      ap expr_depth (means s (F.Op op a b) var ∙ ap (λ g. g var) e)
      ∙ fold_out-Expr ℕ expr_depth_step (E.Op op (expr_of a var) (expr_of b var))
      ∙ rw (E.outs-Op op (expr_of a var) (expr_of b var))

-- the forms fit where their parts do
all_tails : (n : ℕ) (es : List PExpr) → AllByRecursion (ExprFits n) es →
    list_all (λ p. p) (map tails_follow es) ≡ true
all_tails n [] all = refl
all_tails n (e ∷ es) all =
    true_both (tails_follow e) (list_all (λ p. p) (map tails_follow es))
    all.0.tails (all_tails n es all.1)

all_deep : (n : ℕ) (var : List ℕ → ℕ) (es : List PExpr) (first : ℕ) → first + n ≤ 64 →
    AllByRecursion (ExprFits n) es →
    fold max first (map expr_depth (map (λ part. part var) (map expr_of es))) + n ≤ 64
all_deep n var [] first h all = h
all_deep n var (e ∷ es) first h all =
    all_deep n var es (max first (expr_depth (expr_of e var))) (omega (arith, h, all.0.deep var))
    all.1

flat_fits : (n : ℕ) (e : PExpr) → n ≤ 64 → tails_follow e ≡ true →
    ((var : List ℕ → ℕ) → expr_depth (expr_of e var) ≡ 0) → ExprFits n e
flat_fits n e h tails none =
    record { tails = tails; deep = λ var. omega (arith, h, none var) }

pub tuple_fits : (s : Spot) (es : List PExpr) (n : ℕ) → n + 1 ≤ 64 →
    AllByRecursion (ExprFits (n + 1)) es → ExprFits n (at_spot s (F.Tuple es))
tuple_fits s es n h all = record {
  tails = tails-Tuple s es ∙ all_tails (n + 1) es all;
  deep = λ var.
      let parts = all_deep (n + 1) var es 0 (from_zero (n + 1) h) all in
      omega (arith, depth-Tuple s var es, parts);
}

list_fits : (s : Spot) (es : List PExpr) (n : ℕ) → n + 1 ≤ 64 →
    AllByRecursion (ExprFits (n + 1)) es → ExprFits n (at_spot s (F.List es))
list_fits s es n h all = record {
  tails = tails-List s es ∙ all_tails (n + 1) es all;
  deep = λ var.
      let parts = all_deep (n + 1) var es 0 (from_zero (n + 1) h) all in
      omega (arith, depth-List s var es, parts);
}

pub this_fits : (s : Spot) (n : ℕ) → n ≤ 64 → ExprFits n (at_spot s F.This)
this_fits s n h =
    flat_fits n (at_spot s F.This) h (tails-This s) (λ var. depth-This s var)

pub name_fits : (s : Spot) (x : List ℕ) (n : ℕ) → n ≤ 64 → ExprFits n (at_spot s (F.Name x))
name_fits s x n h =
    flat_fits n (at_spot s (F.Name x)) h (tails-Name s x) (λ var. depth-Name s var x)

-- one expression or more
abbrev pub SomeFit : ℕ → List PExpr → Type 0
SomeFit n es = (nat_le 1 (length (map tails_follow es)) ≡ true) × AllByRecursion (ExprFits n) es

longer : (xs : List PExpr) (e : PExpr) →
    nat_le 1 (length (map tails_follow (xs ++ e ∷ []))) ≡ true
longer [] e = refl
longer (x ∷ xs) e = le-leb 1 (suc (length (map tails_follow (xs ++ e ∷ [])))) (omega arith)

cons_fits : (s : Spot) (es : List PExpr) (e : PExpr) (n : ℕ) → n + 1 ≤ 64 →
    SomeFit (n + 1) es → ExprFits (n + 1) e → ExprFits n (at_spot s (F.Cons es e))
cons_fits s es e n h some last = record {
  tails = tails-Cons s es e ∙ rw (some.0, all_tails (n + 1) es some.1, last.tails);
  deep = λ var. omega (
    arith,
    depth-Cons s var es e,
    all_deep (n + 1) var es 0 (from_zero (n + 1) h) some.1,
    last.deep var,
  );
}

neg_fits : (s : Spot) (e : PExpr) (n : ℕ) → ExprFits n e → ExprFits n (at_spot s (F.Neg e))
neg_fits s e n is = record {
  tails = tails-Neg s e ∙ is.tails;
  deep = λ var. omega (arith, depth-Neg s var e, is.deep var);
}

op_fits : (s : Spot) (op : OpKind) (a b : PExpr) (n : ℕ) → ExprFits n a → ExprFits n b →
    ExprFits n (at_spot s (F.Op op a b))
op_fits s op a b n p q = record {
  tails = tails-Op s op a b ∙ true_both (tails_follow a) (tails_follow b) p.tails q.tails;
  deep = λ var. omega (arith, depth-Op s var op a b, p.deep var, q.deep var);
}

-- what fits in more brackets fits in fewer
pub outer : (n : ℕ) (e : PExpr) → ExprFits (n + 1) e → ExprFits n e
outer n e is = record { tails = is.tails; deep = λ var. omega (arith, is.deep var) }

mutual
  pub expr_fits : {n : ℕ} {ts rest : List Token} {e : PExpr} → IsExpr ts e rest →
      Inscribed n ts → ExprFits n e × Inscribed n rest
  expr_fits (IsExpr.sum x m) d = let p = product_fits x d in terms_fit m p.0 p.1

  terms_fit : {n : ℕ} {a e : PExpr} {ts rest : List Token} → IsTerms a ts e rest →
      ExprFits n a → Inscribed n ts → ExprFits n e × Inscribed n rest
  terms_fit IsTerms.no_more_terms fits d = (fits, d)
  terms_fit {n = n} (IsTerms.more_terms {t = t} {op = op} {a = a} {b = b} is x m) fits d =
      let p = product_fits x (inscribed_on (plus_neither t.kind op is) refl d) in
      terms_fit m (op_fits (out-PExpr a).spot op a b n fits p.0) p.1

  product_fits : {n : ℕ} {ts rest : List Token} {e : PExpr} → IsProduct ts e rest →
      Inscribed n ts → ExprFits n e × Inscribed n rest
  product_fits (IsProduct.product x m) d = let p = unary_fits x d in factors_fit m p.0 p.1

  factors_fit : {n : ℕ} {a e : PExpr} {ts rest : List Token} → IsFactors a ts e rest →
      ExprFits n a → Inscribed n ts → ExprFits n e × Inscribed n rest
  factors_fit IsFactors.no_more_factors fits d = (fits, d)
  factors_fit {n = n} (IsFactors.more_factors {t = t} {op = op} {a = a} {b = b} is x m) fits d =
      let p = unary_fits x (inscribed_on (times_neither t.kind op is) refl d) in
      factors_fit m (op_fits (out-PExpr a).spot op a b n fits p.0) p.1

  unary_fits : {n : ℕ} {ts rest : List Token} {e : PExpr} → IsUnary ts e rest →
      Inscribed n ts → ExprFits n e × Inscribed n rest
  unary_fits {n = n} (IsUnary.negative {t = t} {e = e} is x) d =
      let p = unary_fits x (inscribed_on (neither refl refl refl) is d) in
      (neg_fits t.spot e n p.0, p.1)
  unary_fits (IsUnary.primary x) d = primary_fits x d

  primary_fits : {n : ℕ} {ts rest : List Token} {e : PExpr} → IsPrimary ts e rest →
      Inscribed n ts → ExprFits n e × Inscribed n rest
  primary_fits {n = n} (IsPrimary.number {t = t} {n = z} is) d = (
    flat_fits n (at_spot t.spot (F.Int z)) d.few (tails-Int t.spot z)
        (λ var. depth-Int t.spot var z),
    inscribed_on (neither refl refl refl) is d,
  )
  primary_fits {n = n} (IsPrimary.text {t = t} {s = s} is) d = (
    flat_fits n (at_spot t.spot (F.Text s)) d.few (tails-Text t.spot s)
        (λ var. depth-Text t.spot var s),
    inscribed_on (neither refl refl refl) is d,
  )
  primary_fits {n = n} (IsPrimary.name {t = t} {s = s} is) d =
      (name_fits t.spot s n d.few, inscribed_on (neither refl refl refl) is d)
  primary_fits {n = n} (IsPrimary.this {t = t} is) d =
      (this_fits t.spot n d.few, inscribed_on (neither refl refl refl) is d)
  primary_fits {n = n} (IsPrimary.step {t = t} is a b) d = (
    flat_fits n (at_spot t.spot F.Step) d.few (tails-Step t.spot)
        (λ var. depth-Step t.spot var),
    inscribed_close (closing refl refl refl) b
        (inscribed_open (opening refl refl) a (inscribed_on (neither refl refl refl) is d)),
  )
  primary_fits {n = n} (IsPrimary.tuple {t = t} {es = es} is x) d =
      let inner = inscribed_open (opening refl refl) is d in
      let p = listed_fits (closing refl refl refl) x inner in
      (tuple_fits t.spot es n inner.few p.0, p.1)
  primary_fits {n = n} (IsPrimary.list {t = t} {es = es} is x) d =
      let inner = inscribed_open (opening refl refl) is d in
      let p = listed_fits (closing refl refl refl) x inner in
      (list_fits t.spot es n inner.few p.0, p.1)
  primary_fits {n = n} (IsPrimary.list_with_tail {t = t} {es = es} {e = e} is x a y b) d =
      let inner = inscribed_open (opening refl refl) is d in
      let p = exprs_fit x inner in
      let q = expr_fits y (inscribed_on (neither refl refl refl) a p.1) in
      (cons_fits t.spot es e n inner.few p.0 q.0, inscribed_close (closing refl refl refl) b q.1)
  primary_fits {n = n} (IsPrimary.parentheses {e = e} is x a) d =
      let p = expr_fits x (inscribed_open (opening refl refl) is d) in
      (outer n e p.0, inscribed_close (closing refl refl refl) a p.1)

  pub listed_fits : {n : ℕ} {close : TokenKind} {ts rest : List Token} {es : List PExpr} →
      IsClosing close → IsListed close ts es rest → Inscribed (n + 1) ts →
      AllByRecursion (ExprFits (n + 1)) es × Inscribed n rest
  listed_fits c (IsListed.nothing is) d = (tt, inscribed_close c is d)
  listed_fits c (IsListed.some x is) d =
      let p = exprs_fit x d in (p.0.1, inscribed_close c is p.1)

  exprs_fit : {n : ℕ} {ts rest : List Token} {es : List PExpr} → IsExprs ts es rest →
      Inscribed n ts → SomeFit n es × Inscribed n rest
  exprs_fit (IsExprs.exprs x m) d =
      let p = expr_fits x d in more_fit m (refl, (p.0, tt)) p.1

  more_fit : {n : ℕ} {before es : List PExpr} {ts rest : List Token} →
      IsMoreExprs before ts es rest → SomeFit n before → Inscribed n ts →
      SomeFit n es × Inscribed n rest
  more_fit IsMoreExprs.no_more_exprs some d = (some, d)
  more_fit {n = n} (IsMoreExprs.more_exprs {before = before} {e = e} is x m) some d =
      let p = expr_fits x (inscribed_on (neither refl refl refl) is d) in
      more_fit m (longer before e, push (ExprFits n) before e some.1 p.0) p.1
