-- The constants of an expression that is read from fine tokens are fine.
use Rattle.std.proofs.Common.{◌≡◌, ℕ, ℤ, Bool, true, ◌&&◌, List, [], ◌∷◌, map, refl}
use Rattle.std.proofs.Common.{ap, ◌∙◌, subst}
use Rattle.std.specs.List.{AllByRecursion, list_all}
use Rattle.std.specs.Str.{is_utf8}
use Rattle.rn_items.proofs.Bools.{true_both}
use Rattle.rn_model.specs.declared.expr.OpKind.{OpKind}
use Rattle.rn_model.specs.declared.expr.Expr.{Expr, map-Expr, out-Expr, fold_out-Expr}
use Rattle.rn_model.specs.declared.expr.Expr.TheVariants as E
use Rattle.rn_model.specs.declared.expr.Expr.TheOpen as O
use Rattle.rn_notation.specs.declared.token.Spot.{Spot}
use Rattle.rn_notation.specs.declared.token.Token.{Token}
use Rattle.rn_notation.specs.declared.token.TokenKind.{TokenKind}
use Rattle.rn_inscript.specs.declared.exprs.PExpr.{PExpr, out-PExpr}
use Rattle.rn_inscript.specs.declared.exprs.PForm.{PForm, fold_out-PForm}
use Rattle.rn_inscript.specs.declared.exprs.PForm.TheVariants as F
use Rattle.rn_inscript.specs.Expressions.{at_spot, IsExpr, IsTerms, IsProduct, IsFactors, IsUnary}
use Rattle.rn_inscript.specs.Expressions.{IsPrimary, IsListed, IsExprs, IsMoreExprs}
use Rattle.rn_numbered.specs.Numbered.{expr_of, expr_of_form}
use Rattle.rn_numbered.proofs.NumberedForms.{Numbered, form_expr, expr-at}
use Rattle.rn_spelled.proofs.KindDepths.{push}
use Rattle.rn_lines.specs.Laws.{has_sixty_four_bits}
use Rattle.rn_readable.proofs.FineReadings.{constants_step, constants_fine}
use Rattle.rn_readable.proofs.FineTokens.{IsFineKind, AreFineTokens}

-- its constants are, whatever numbers its names have
abbrev pub IsFinePart : PExpr → Type 0
IsFinePart e = (var : List ℕ → ℕ) → constants_fine (expr_of e var) ≡ true

-- the constants of an expression, by its form
at : (e : Expr) (x : O.Expr-F Expr) → out-Expr e ≡ x →
    constants_fine e ≡ constants_step (map-Expr Expr Bool constants_fine x)
at e x is = fold_out-Expr Bool constants_step e
    ∙ ap (λ x. constants_step (map-Expr Expr Bool constants_fine x)) is

-- the expression that a form means, once its parts have numbers
module _ (s : Spot) (var : List ℕ → ℕ) where
  abbrev numbered : List PExpr → List Expr
  numbered es = map (λ part. part var) (map expr_of es)

  means : (f : PForm) (e : Expr) (x : O.Expr-F Expr) → form_expr f var ≡ e → out-Expr e ≡ x →
      constants_fine (expr_of (at_spot s f) var)
      ≡ constants_step (map-Expr Expr Bool constants_fine x)
  means f e x is form = ap constants_fine (ap (λ g. g var) (expr-at s f) ∙ is) ∙ at e x form

  fine-Int : (n : ℤ) → constants_fine (expr_of (at_spot s (F.Int n)) var) ≡ has_sixty_four_bits n
  fine-Int n =
      let e : form_expr (F.Int n) ≡ (λ var. E.Int n) =
      fold_out-PForm Numbered Numbered expr_of_form (λ e. e.form) (F.Int n) ∙ rw (F.outs-Int n) in
      means (F.Int n) (E.Int n) (O.Int n) (ap (λ g. g var) e) (E.outs-Int n)

  fine-Text : (t : List ℕ) → constants_fine (expr_of (at_spot s (F.Text t)) var) ≡ is_utf8 t
  fine-Text t =
      let e : form_expr (F.Text t) ≡ (λ var. E.Text t) =
      fold_out-PForm Numbered Numbered expr_of_form (λ e. e.form) (F.Text t)
      ∙ rw (F.outs-Text t) in
      means (F.Text t) (E.Text t) (O.Text t) (ap (λ g. g var) e) (E.outs-Text t)

  fine-Name : (t : List ℕ) → constants_fine (expr_of (at_spot s (F.Name t)) var) ≡ true
  fine-Name t =
      let e : form_expr (F.Name t) ≡ (λ var. E.Var (var t)) =
      fold_out-PForm Numbered Numbered expr_of_form (λ e. e.form) (F.Name t)
      ∙ rw (F.outs-Name t) in
      means (F.Name t) (E.Var (var t)) (O.Var (var t)) (ap (λ g. g var) e) (E.outs-Var (var t))

  fine-This : constants_fine (expr_of (at_spot s F.This) var) ≡ true
  fine-This =
      let e : form_expr F.This ≡ (λ var. E.This) =
      fold_out-PForm Numbered Numbered expr_of_form (λ e. e.form) F.This ∙ rw F.outs-This in
      means F.This E.This O.This (ap (λ g. g var) e) E.outs-This

  fine-Step : constants_fine (expr_of (at_spot s F.Step) var) ≡ true
  fine-Step =
      let e : form_expr F.Step ≡ (λ var. E.Step) =
      fold_out-PForm Numbered Numbered expr_of_form (λ e. e.form) F.Step ∙ rw F.outs-Step in
      means F.Step E.Step O.Step (ap (λ g. g var) e) E.outs-Step

  fine-Tuple : (es : List PExpr) →
      constants_fine (expr_of (at_spot s (F.Tuple es)) var)
      ≡ list_all (λ p. p) (map constants_fine (numbered es))
  fine-Tuple es =
      let e : form_expr (F.Tuple es) ≡ (λ var. E.Tuple (map (λ part. part var) (map expr_of es))) =
      fold_out-PForm Numbered Numbered expr_of_form (λ e. e.form) (F.Tuple es)
      ∙ rw (F.outs-Tuple es) in
      means (F.Tuple es) (E.Tuple (numbered es)) (O.Tuple (numbered es)) (ap (λ g. g var) e)
      (E.outs-Tuple (numbered es))

  fine-List : (es : List PExpr) →
      constants_fine (expr_of (at_spot s (F.List es)) var)
      ≡ list_all (λ p. p) (map constants_fine (numbered es))
  fine-List es =
      let e : form_expr (F.List es) ≡ (λ var. E.List (map (λ part. part var) (map expr_of es))) =
      fold_out-PForm Numbered Numbered expr_of_form (λ e. e.form) (F.List es)
      ∙ rw (F.outs-List es) in
      means (F.List es) (E.List (numbered es)) (O.List (numbered es)) (ap (λ g. g var) e)
      (E.outs-List (numbered es))

  fine-Cons : (es : List PExpr) (a : PExpr) →
      constants_fine (expr_of (at_spot s (F.Cons es a)) var)
      ≡ (list_all (λ p. p) (map constants_fine (numbered es)) && constants_fine (expr_of a var))
  fine-Cons es a =
      let e : form_expr (F.Cons es a)
      ≡ (λ var. E.Cons (map (λ part. part var) (map expr_of es)) (expr_of a var)) =
      fold_out-PForm Numbered Numbered expr_of_form (λ e. e.form) (F.Cons es a)
      ∙ rw (F.outs-Cons es a) in
      means (F.Cons es a) (E.Cons (numbered es) (expr_of a var))
      (O.Cons (numbered es) (expr_of a var)) (ap (λ g. g var) e)
      (E.outs-Cons (numbered es) (expr_of a var))

  fine-Neg : (a : PExpr) → constants_fine (expr_of (at_spot s (F.Neg a)) var) ≡ true
  fine-Neg a =
      let e : form_expr (F.Neg a) ≡ (λ var. E.Neg (expr_of a var)) =
      fold_out-PForm Numbered Numbered expr_of_form (λ e. e.form) (F.Neg a)
      ∙ rw (F.outs-Neg a) in
      means (F.Neg a) (E.Neg (expr_of a var)) (O.Neg (expr_of a var)) (ap (λ g. g var) e)
      (E.outs-Neg (expr_of a var))

  fine-Op : (op : OpKind) (a b : PExpr) →
      constants_fine (expr_of (at_spot s (F.Op op a b)) var) ≡ true
  fine-Op op a b =
      let e : form_expr (F.Op op a b) ≡ (λ var. E.Op op (expr_of a var) (expr_of b var)) =
      fold_out-PForm Numbered Numbered expr_of_form (λ e. e.form) (F.Op op a b)
      ∙ rw (F.outs-Op op a b) in
      means (F.Op op a b) (E.Op op (expr_of a var) (expr_of b var))
      (O.Op op (expr_of a var) (expr_of b var)) (ap (λ g. g var) e)
      (E.outs-Op op (expr_of a var) (expr_of b var))

all_fine : (var : List ℕ → ℕ) (es : List PExpr) → AllByRecursion IsFinePart es →
    list_all (λ p. p) (map constants_fine (map (λ part. part var) (map expr_of es))) ≡ true
all_fine var [] all = refl
all_fine var (e ∷ es) all =
    true_both (constants_fine (expr_of e var))
    (list_all (λ p. p) (map constants_fine (map (λ part. part var) (map expr_of es))))
    (all.0 var) (all_fine var es all.1)

pub tuple_is_fine : (s : Spot) (es : List PExpr) → AllByRecursion IsFinePart es →
    IsFinePart (at_spot s (F.Tuple es))
tuple_is_fine s es all = λ var. fine-Tuple s var es ∙ all_fine var es all

cons_is_fine : (s : Spot) (es : List PExpr) (e : PExpr) → AllByRecursion IsFinePart es →
    IsFinePart e → IsFinePart (at_spot s (F.Cons es e))
cons_is_fine s es e all last = λ var.
    fine-Cons s var es e
    ∙ true_both (list_all (λ p. p) (map constants_fine (numbered s var es)))
    (constants_fine (expr_of e var)) (all_fine var es all) (last var)

-- a token of a kind that is fine
pub of_kind : {k l : TokenKind} → k ≡ l → IsFineKind k → IsFineKind l
of_kind e fine = subst IsFineKind e fine

mutual
  pub expr_is_fine : {ts rest : List Token} {e : PExpr} → IsExpr ts e rest → AreFineTokens ts →
      IsFinePart e × AreFineTokens rest
  expr_is_fine (IsExpr.sum x m) d = let p = product_is_fine x d in terms_are_fine m p.0 p.1

  terms_are_fine : {a e : PExpr} {ts rest : List Token} → IsTerms a ts e rest → IsFinePart a →
      AreFineTokens ts → IsFinePart e × AreFineTokens rest
  terms_are_fine IsTerms.no_more_terms fine d = (fine, d)
  terms_are_fine (IsTerms.more_terms {op = op} {a = a} {b = b} is x m) fine d =
      let p = product_is_fine x d.1 in
      terms_are_fine m (λ var. fine-Op (out-PExpr a).spot var op a b) p.1

  product_is_fine : {ts rest : List Token} {e : PExpr} → IsProduct ts e rest →
      AreFineTokens ts → IsFinePart e × AreFineTokens rest
  product_is_fine (IsProduct.product x m) d =
      let p = unary_is_fine x d in factors_are_fine m p.0 p.1

  factors_are_fine : {a e : PExpr} {ts rest : List Token} → IsFactors a ts e rest →
      IsFinePart a → AreFineTokens ts → IsFinePart e × AreFineTokens rest
  factors_are_fine IsFactors.no_more_factors fine d = (fine, d)
  factors_are_fine (IsFactors.more_factors {op = op} {a = a} {b = b} is x m) fine d =
      let p = unary_is_fine x d.1 in
      factors_are_fine m (λ var. fine-Op (out-PExpr a).spot var op a b) p.1

  unary_is_fine : {ts rest : List Token} {e : PExpr} → IsUnary ts e rest → AreFineTokens ts →
      IsFinePart e × AreFineTokens rest
  unary_is_fine (IsUnary.negative {t = t} {e = e} is x) d =
      let p = unary_is_fine x d.1 in (λ var. fine-Neg t.spot var e, p.1)
  unary_is_fine (IsUnary.primary x) d = primary_is_fine x d

  primary_is_fine : {ts rest : List Token} {e : PExpr} → IsPrimary ts e rest →
      AreFineTokens ts → IsFinePart e × AreFineTokens rest
  primary_is_fine (IsPrimary.number {t = t} {n = n} is) d =
      let bits = of_kind is d.0 in (λ var. fine-Int t.spot var n ∙ bits.0, d.1)
  primary_is_fine (IsPrimary.text {t = t} {s = s} is) d =
      let good = of_kind is d.0 in (λ var. fine-Text t.spot var s ∙ good, d.1)
  primary_is_fine (IsPrimary.name {t = t} {s = s} is) d = (λ var. fine-Name t.spot var s, d.1)
  primary_is_fine (IsPrimary.this {t = t} is) d = (λ var. fine-This t.spot var, d.1)
  primary_is_fine (IsPrimary.step {t = t} is a b) d = (λ var. fine-Step t.spot var, d.1.1.1)
  primary_is_fine (IsPrimary.tuple {t = t} {es = es} is x) d =
      let p = listed_are_fine x d.1 in (tuple_is_fine t.spot es p.0, p.1)
  primary_is_fine (IsPrimary.list {t = t} {es = es} is x) d =
      let p = listed_are_fine x d.1 in
      (λ var. fine-List t.spot var es ∙ all_fine var es p.0, p.1)
  primary_is_fine (IsPrimary.list_with_tail {t = t} {es = es} {e = e} is x a y b) d =
      let p = exprs_are_fine x d.1 in
      let q = expr_is_fine y p.1.1 in
      (cons_is_fine t.spot es e p.0 q.0, q.1.1)
  primary_is_fine (IsPrimary.parentheses is x a) d =
      let p = expr_is_fine x d.1 in (p.0, p.1.1)

  pub listed_are_fine : {close : TokenKind} {ts rest : List Token} {es : List PExpr} →
      IsListed close ts es rest → AreFineTokens ts →
      AllByRecursion IsFinePart es × AreFineTokens rest
  listed_are_fine (IsListed.nothing is) d = (tt, d.1)
  listed_are_fine (IsListed.some x is) d = let p = exprs_are_fine x d in (p.0, p.1.1)

  exprs_are_fine : {ts rest : List Token} {es : List PExpr} → IsExprs ts es rest →
      AreFineTokens ts → AllByRecursion IsFinePart es × AreFineTokens rest
  exprs_are_fine (IsExprs.exprs x m) d =
      let p = expr_is_fine x d in more_are_fine m (p.0, tt) p.1

  more_are_fine : {before es : List PExpr} {ts rest : List Token} → IsMoreExprs before ts es rest →
      AllByRecursion IsFinePart before → AreFineTokens ts →
      AllByRecursion IsFinePart es × AreFineTokens rest
  more_are_fine IsMoreExprs.no_more_exprs all d = (all, d)
  more_are_fine (IsMoreExprs.more_exprs {before = before} {e = e} is x m) all d =
      let p = expr_is_fine x d.1 in more_are_fine m (push IsFinePart before e all p.0) p.1
