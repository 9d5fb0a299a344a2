-- Induction over the forms of expressions, and over the parts of conditions.
use Rattle.std.proofs.Common.{ℕ, ℤ, List, [], ◌∷◌, map, sym, subst}
use Rattle.std.specs.List.{AllByRecursion}
use Rattle.rn_model.specs.declared.expr.OpKind.{OpKind}
use Rattle.rn_model.specs.declared.expr.CompareKind.{CompareKind}
use Rattle.rn_model.specs.declared.expr.Expr.{Expr, roll-Expr, map-Expr, ind-Expr}
use Rattle.rn_model.specs.declared.expr.Expr.TheVariants as E
use Rattle.rn_model.specs.declared.expr.Expr.TheOpen as O
use Rattle.rn_model.specs.declared.expr.Cond.{Cond, Cond-F, map-Cond, roll-Cond, ind-Cond}
use Rattle.rn_model.specs.declared.expr.Simple.{Simple, map-Simple, roll-Simple}
use Rattle.rn_model.specs.declared.expr.Simple.TheVariants as Simple
use Rattle.rn_model.specs.declared.expr.Simple.TheOpen as S
use Rattle.rn_model.proofs.TruthLemmas.{cond_of}

-- what holds of an expression where it holds of its parts
pub record ByForm (P : Expr → Type 0) : Type 0 where
  pub int : (n : ℤ) → P (E.Int n)
  pub text : (s : List ℕ) → P (E.Text s)
  pub var : (x : ℕ) → P (E.Var x)
  pub this : P E.This
  pub step : P E.Step
  pub tuple : (parts : List Expr) → AllByRecursion P parts → P (E.Tuple parts)
  pub list : (parts : List Expr) → AllByRecursion P parts → P (E.List parts)
  pub cons : (parts : List Expr) (tail : Expr) → AllByRecursion P parts → P tail →
      P (E.Cons parts tail)
  pub neg : (part : Expr) → P part → P (E.Neg part)
  pub op : (kind : OpKind) (a b : Expr) → P a → P b → P (E.Op kind a b)

module _ {X : Type 0} (P : X → Type 0) where
  each_part : (parts : List ((x : X) × P x)) → AllByRecursion P (map (λ e. e.0) parts)
  each_part [] = tt
  each_part (part ∷ parts) = (part.1, each_part parts)

module _ (P : Expr → Type 0) (f : ByForm P) where
  abbrev Part : Type 0
  Part = (e : Expr) × P e

  abbrev exprs : List Part → List Expr
  exprs parts = map (λ e. e.0) parts

  layer : (y : O.Expr-F Part) → P (roll-Expr (map-Expr Part Expr (λ e. e.0) y))
  layer (O.Int n) = subst P (sym (E.rolls-Int n)) (f.int n)
  layer (O.Text s) = subst P (sym (E.rolls-Text s)) (f.text s)
  layer (O.Var x) = subst P (sym (E.rolls-Var x)) (f.var x)
  layer O.This = subst P (sym E.rolls-This) f.this
  layer O.Step = subst P (sym E.rolls-Step) f.step
  layer (O.Tuple parts) =
      subst P (sym (E.rolls-Tuple (exprs parts))) (f.tuple (exprs parts) (each_part P parts))
  layer (O.List parts) =
      subst P (sym (E.rolls-List (exprs parts))) (f.list (exprs parts) (each_part P parts))
  layer (O.Cons parts tail) =
      subst P (sym (E.rolls-Cons (exprs parts) tail.0))
      (f.cons (exprs parts) tail.0 (each_part P parts) tail.1)
  layer (O.Neg part) = subst P (sym (E.rolls-Neg part.0)) (f.neg part.0 part.1)
  layer (O.Op kind a b) = subst P (sym (E.rolls-Op kind a.0 b.0)) (f.op kind a.0 b.0 a.1 b.1)

  -- what holds of each form where it holds of the parts holds of each expression
  pub by_form : (e : Expr) → P e
  by_form = ind-Expr P (λ x y is. subst (λ w. P (roll-Expr w)) is (layer y))

-- what holds of comparisons and negations, and of conditions, where it holds of their parts
pub record ByPart (P : Simple → Type 0) (Q : Cond → Type 0) : Type 0 where
  pub compare : (kind : CompareKind) (a b : Expr) → P (Simple.Compare kind a b)
  pub negation : (cond : Cond) → Q cond → P (Simple.Not cond)
  pub lists : (any : List (List Simple)) → AllByRecursion (AllByRecursion P) any → Q (cond_of any)

module _ (P : Simple → Type 0) (Q : Cond → Type 0) (f : ByPart P Q) where
  abbrev SimplePart : Type 0
  SimplePart = (x : Simple) × P x

  abbrev CondPart : Type 0
  CondPart = (cond : Cond) × Q cond

  simple_layer : (y : S.Simple-F SimplePart CondPart) →
      P (roll-Simple (map-Simple SimplePart CondPart Simple Cond (λ e. e.0) (λ e. e.0) y))
  simple_layer (S.Compare kind a b) =
      subst P (sym (Simple.rolls-Compare kind a b)) (f.compare kind a b)
  simple_layer (S.Not part) = subst P (sym (Simple.rolls-Not part.0)) (f.negation part.0 part.1)

  each_list : (any : List (List SimplePart)) →
      AllByRecursion (AllByRecursion P) (map (map (λ e. e.0)) any)
  each_list [] = tt
  each_list (list ∷ any) = (each_part P list, each_list any)

  cond_layer : (y : Cond-F SimplePart CondPart) →
      Q (roll-Cond (map-Cond SimplePart CondPart Simple Cond (λ e. e.0) (λ e. e.0) y))
  cond_layer y = f.lists (map (map (λ e. e.0)) y.any) (each_list y.any)

  pub by_part : (cond : Cond) → Q cond
  by_part = ind-Cond P Q
      (λ x y is. subst (λ w. P (roll-Simple w)) is (simple_layer y))
      (λ x y is. subst (λ w. Q (roll-Cond w)) is (cond_layer y))
