-- The brackets of a condition that is read nest as deep as its tokens, and so do its expressions.
use Rattle.std.proofs.Common.{◌≡◌, ℕ, ◌+◌, ◌≤◌, List, [], ◌∷◌, map, refl, sym, ap, ◌∙◌}
use Rattle.std.proofs.Common.{subst, arith}
use Rattle.std.specs.Prelude.{suc, max, fold, flat_map}
use Rattle.std.specs.List.{AllByRecursion}
use Rattle.rn_model.specs.declared.expr.Expr.{Expr}
use Rattle.rn_model.specs.declared.expr.CompareKind.{CompareKind}
use Rattle.rn_model.specs.declared.expr.CompareKind.TheVariants.{Same}
use Rattle.rn_model.specs.declared.expr.Cond.{Cond, roll-Cond, fold-roll-Cond}
use Rattle.rn_model.specs.declared.expr.Simple.{Simple, fold-Simple, fold_out-Simple}
use Rattle.rn_model.specs.declared.expr.Simple.TheVariants as Simple
use Rattle.rn_model.specs.Kinds.{greatest, expr_depth}
use Rattle.rn_model.specs.Good.{cond_depth, cond_depth_step}
use Rattle.rn_model.proofs.EachElement.{each_append}
use Rattle.rn_notation.specs.declared.token.Token.{Token}
use Rattle.rn_inscript.specs.declared.exprs.PExpr.{PExpr}
use Rattle.rn_inscript.specs.declared.conds.PCond.{PCond, fold-roll-PCond}
use Rattle.rn_inscript.specs.declared.conds.PSimple.{PSimple, fold-PSimple, fold_out-PSimple}
use Rattle.rn_inscript.specs.declared.conds.PSimple.TheVariants as S
use Rattle.rn_inscript.specs.Conditions.{any_of, IsCond, IsAlternatives, IsMoreAlternatives}
use Rattle.rn_inscript.specs.Conditions.{IsBoth, IsMoreBoth, IsSimple}
use Rattle.rn_numbered.specs.Numbered.{expr_of, cond_of, simple_of_form}
use Rattle.rn_spelled.specs.WellFormed.{exprs_in, simple_exprs_step}
use Rattle.rn_spelled.proofs.KindDepths.{push, from_zero}
use Rattle.rn_spelled.proofs.WithinLevels.{opening, closing, neither, Inscribed}
use Rattle.rn_spelled.proofs.WithinLevels.{inscribed_open, inscribed_close, inscribed_on}
use Rattle.rn_spelled.proofs.WithinLevels.{compare_neither}
use Rattle.rn_spelled.proofs.ExpressionDepths.{ExprFits, expr_fits, outer}

abbrev NumberedSimple : Type 0
NumberedSimple = (List ℕ → ℕ) → Simple

abbrev NumberedCond : Type 0
NumberedCond = (List ℕ → ℕ) → Cond

abbrev simple_of : PSimple → NumberedSimple
simple_of = fold-PSimple NumberedSimple NumberedCond simple_of_form
    (λ cond var. roll-Cond (record { any = map (map (λ simple. simple var)) cond.any }))

abbrev simple_exprs : PSimple → List PExpr
simple_exprs = fold-PSimple (List PExpr) (List PExpr) simple_exprs_step
    (λ cond. flat_map (λ simples. flat_map (λ s. s) simples) cond.any)

abbrev simple_depth : Simple → ℕ
simple_depth = fold-Simple ℕ ℕ cond_depth_step (λ cond. greatest (map greatest cond.any))

-- the expressions fit, and with n brackets around it the condition isn't too deep
pub record SimpleFits (n : ℕ) (s : PSimple) : Type 0 where
  pub exprs : AllByRecursion (ExprFits n) (simple_exprs s)
  pub deep : (var : List ℕ → ℕ) → simple_depth (simple_of s var) + n ≤ 64

pub record CondFits (n : ℕ) (c : PCond) : Type 0 where
  pub exprs : AllByRecursion (ExprFits n) (exprs_in c)
  pub deep : (var : List ℕ → ℕ) → cond_depth (cond_of c var) + n ≤ 64

-- by their forms
exprs-Compare : (kind : CompareKind) (a b : PExpr) →
    simple_exprs (S.Compare kind a b) ≡ a ∷ b ∷ []
exprs-Compare kind a b = fold_out-PSimple (List PExpr) (List PExpr) simple_exprs_step
    (λ cond. flat_map (λ simples. flat_map (λ s. s) simples) cond.any) (S.Compare kind a b)
    ∙ rw (S.outs-Compare kind a b)

exprs-Bare : (a : PExpr) → simple_exprs (S.Bare a) ≡ a ∷ []
exprs-Bare a = fold_out-PSimple (List PExpr) (List PExpr) simple_exprs_step
    (λ cond. flat_map (λ simples. flat_map (λ s. s) simples) cond.any) (S.Bare a)
    ∙ rw (S.outs-Bare a)

exprs-Not : (c : PCond) → simple_exprs (S.Not c) ≡ exprs_in c
exprs-Not c = fold_out-PSimple (List PExpr) (List PExpr) simple_exprs_step
    (λ cond. flat_map (λ simples. flat_map (λ s. s) simples) cond.any) (S.Not c)
    ∙ rw (S.outs-Not c)

means-Compare : (kind : CompareKind) (a b : PExpr) →
    simple_of (S.Compare kind a b) ≡ (λ var. Simple.Compare kind (expr_of a var) (expr_of b var))
means-Compare kind a b = fold_out-PSimple NumberedSimple NumberedCond simple_of_form
    (λ cond var. roll-Cond (record { any = map (map (λ simple. simple var)) cond.any }))
    (S.Compare kind a b)
    ∙ rw (S.outs-Compare kind a b)

means-Bare : (a : PExpr) →
    simple_of (S.Bare a) ≡ (λ var. Simple.Compare Same (expr_of a var) (expr_of a var))
means-Bare a = fold_out-PSimple NumberedSimple NumberedCond simple_of_form
    (λ cond var. roll-Cond (record { any = map (map (λ simple. simple var)) cond.any }))
    (S.Bare a)
    ∙ rw (S.outs-Bare a)

means-Not : (c : PCond) → simple_of (S.Not c) ≡ (λ var. Simple.Not (cond_of c var))
means-Not c = fold_out-PSimple NumberedSimple NumberedCond simple_of_form
    (λ cond var. roll-Cond (record { any = map (map (λ simple. simple var)) cond.any }))
    (S.Not c)
    ∙ rw (S.outs-Not c)

depth_compared : (kind : CompareKind) (x y : Expr) →
    simple_depth (Simple.Compare kind x y) ≡ max (expr_depth x) (expr_depth y)
depth_compared kind x y =
    fold_out-Simple ℕ ℕ cond_depth_step (λ cond. greatest (map greatest cond.any))
    (Simple.Compare kind x y)
    ∙ rw (Simple.outs-Compare kind x y)

depth_negated : (c : Cond) → simple_depth (Simple.Not c) ≡ suc (cond_depth c)
depth_negated c =
    fold_out-Simple ℕ ℕ cond_depth_step (λ cond. greatest (map greatest cond.any)) (Simple.Not c)
    ∙ rw (Simple.outs-Not c)

compare_fits : (n : ℕ) (kind : CompareKind) (a b : PExpr) → ExprFits n a → ExprFits n b →
    SimpleFits n (S.Compare kind a b)
compare_fits n kind a b p q = record {
  exprs = subst (AllByRecursion (ExprFits n)) (sym (exprs-Compare kind a b)) (p, (q, tt));
  deep = λ var.
      let e = ap (λ s. simple_depth (s var)) (means-Compare kind a b) in
      let d = depth_compared kind (expr_of a var) (expr_of b var) in
      omega (arith, e, d, p.deep var, q.deep var);
}

bare_fits : (n : ℕ) (a : PExpr) → ExprFits n a → SimpleFits n (S.Bare a)
bare_fits n a p = record {
  exprs = subst (AllByRecursion (ExprFits n)) (sym (exprs-Bare a)) (p, tt);
  deep = λ var.
      let e = ap (λ s. simple_depth (s var)) (means-Bare a) in
      let d = depth_compared Same (expr_of a var) (expr_of a var) in
      omega (arith, e, d, p.deep var);
}

pub all_outer : (n : ℕ) (es : List PExpr) → AllByRecursion (ExprFits (n + 1)) es →
    AllByRecursion (ExprFits n) es
all_outer n [] all = tt
all_outer n (e ∷ es) all = (outer n e all.0, all_outer n es all.1)

not_fits : (n : ℕ) (c : PCond) → CondFits (n + 1) c → SimpleFits n (S.Not c)
not_fits n c is = record {
  exprs = subst (AllByRecursion (ExprFits n)) (sym (exprs-Not c))
      (all_outer n (exprs_in c) is.exprs);
  deep = λ var.
      let e = ap (λ s. simple_depth (s var)) (means-Not c) in
      let d = depth_negated (cond_of c var) in
      omega (arith, e, d, is.deep var);
}

-- the conditions that `&&` joins, and the alternatives
abbrev BothFit : ℕ → List PSimple → Type 0
BothFit n b = AllByRecursion (SimpleFits n) b

both_exprs : (n : ℕ) (b : List PSimple) → BothFit n b →
    AllByRecursion (ExprFits n) (flat_map (λ s. s) (map simple_exprs b))
both_exprs n [] all = tt
both_exprs n (s ∷ b) all =
    each_append (ExprFits n) (simple_exprs s) (flat_map (λ s. s) (map simple_exprs b))
    all.0.exprs (both_exprs n b all.1)

any_exprs : (n : ℕ) (all : List (List PSimple)) → AllByRecursion (BothFit n) all →
    AllByRecursion (ExprFits n)
    (flat_map (λ simples. flat_map (λ s. s) simples) (map (map simple_exprs) all))
any_exprs n [] fit = tt
any_exprs n (b ∷ all) fit =
    each_append (ExprFits n) (flat_map (λ s. s) (map simple_exprs b))
    (flat_map (λ simples. flat_map (λ s. s) simples) (map (map simple_exprs) all))
    (both_exprs n b fit.0) (any_exprs n all fit.1)

both_deep : (n : ℕ) (var : List ℕ → ℕ) (b : List PSimple) (first : ℕ) → first + n ≤ 64 →
    BothFit n b →
    fold max first (map simple_depth (map (λ simple. simple var) (map simple_of b))) + n ≤ 64
both_deep n var [] first h all = h
both_deep n var (s ∷ b) first h all =
    both_deep n var b (max first (simple_depth (simple_of s var)))
    (omega (arith, h, all.0.deep var)) all.1

any_deep : (n : ℕ) (var : List ℕ → ℕ) (all : List (List PSimple)) (first : ℕ) → n ≤ 64 →
    first + n ≤ 64 → AllByRecursion (BothFit n) all →
    fold max first (map greatest (map (map simple_depth)
    (map (map (λ simple. simple var)) (map (map simple_of) all)))) + n ≤ 64
any_deep n var [] first few h fit = h
any_deep n var (b ∷ all) first few h fit =
    let here = both_deep n var b 0 (from_zero n few) fit.0 in
    any_deep n var all
    (max first (greatest (map simple_depth (map (λ simple. simple var) (map simple_of b))))) few
    (omega (arith, h, here)) fit.1

any_fits : (n : ℕ) (all : List (List PSimple)) → n ≤ 64 → AllByRecursion (BothFit n) all →
    CondFits n (any_of all)
any_fits n all few fit = record {
  exprs = subst (AllByRecursion (ExprFits n))
      (sym (fold-roll-PCond (List PExpr) (List PExpr) simple_exprs_step
      (λ cond. flat_map (λ simples. flat_map (λ s. s) simples) cond.any)
      (record { any = all })))
      (any_exprs n all fit);
  deep = λ var.
      let means = ap (λ c. cond_depth (c var))
      (fold-roll-PCond NumberedSimple NumberedCond simple_of_form
      (λ cond var. roll-Cond (record { any = map (map (λ simple. simple var)) cond.any }))
      (record { any = all })) in
      let inner = map (map (λ (simple : NumberedSimple). simple var)) (map (map simple_of) all) in
      let step = fold-roll-Cond ℕ ℕ cond_depth_step
      (λ cond. greatest (map greatest cond.any)) (record { any = inner }) in
      subst (λ d. d + n ≤ 64) (sym (means ∙ step)) (any_deep n var all 0 few (from_zero n few) fit);
}

mutual
  pub cond_fits : {n : ℕ} {ts rest : List Token} {c : PCond} → IsCond ts c rest →
      Inscribed n ts → CondFits n c × Inscribed n rest
  cond_fits {n = n} (IsCond.any {all = all} x) d =
      let p = alternatives_fit x d in (any_fits n all d.few p.0, p.1)

  alternatives_fit : {n : ℕ} {ts rest : List Token} {all : List (List PSimple)} →
      IsAlternatives ts all rest → Inscribed n ts →
      AllByRecursion (BothFit n) all × Inscribed n rest
  alternatives_fit (IsAlternatives.alternatives x m) d =
      let p = both_fit x d in more_alternatives_fit m (p.0, tt) p.1

  more_alternatives_fit : {n : ℕ} {before all : List (List PSimple)} {ts rest : List Token} →
      IsMoreAlternatives before ts all rest → AllByRecursion (BothFit n) before →
      Inscribed n ts → AllByRecursion (BothFit n) all × Inscribed n rest
  more_alternatives_fit IsMoreAlternatives.no_more_alternatives fit d = (fit, d)
  more_alternatives_fit {n = n}
      (IsMoreAlternatives.more_alternatives {before = before} {b = b} is x m) fit d =
      let p = both_fit x (inscribed_on (neither refl refl refl) is d) in
      more_alternatives_fit m (push (BothFit n) before b fit p.0) p.1

  both_fit : {n : ℕ} {ts rest : List Token} {b : List PSimple} → IsBoth ts b rest →
      Inscribed n ts → BothFit n b × Inscribed n rest
  both_fit (IsBoth.both x m) d = let p = simple_fits x d in more_both_fit m (p.0, tt) p.1

  more_both_fit : {n : ℕ} {before b : List PSimple} {ts rest : List Token} →
      IsMoreBoth before ts b rest → BothFit n before → Inscribed n ts →
      BothFit n b × Inscribed n rest
  more_both_fit IsMoreBoth.no_more_both fit d = (fit, d)
  more_both_fit {n = n} (IsMoreBoth.more_both {before = before} {s = s} is x m) fit d =
      let p = simple_fits x (inscribed_on (neither refl refl refl) is d) in
      more_both_fit m (push (SimpleFits n) before s fit p.0) p.1

  simple_fits : {n : ℕ} {ts rest : List Token} {s : PSimple} → IsSimple ts s rest →
      Inscribed n ts → SimpleFits n s × Inscribed n rest
  simple_fits {n = n} (IsSimple.bare {a = a} x) d =
      let p = expr_fits x d in (bare_fits n a p.0, p.1)
  simple_fits {n = n} (IsSimple.compare {t = t} {kind = kind} {a = a} {b = b} x is y) d =
      let p = expr_fits x d in
      let q = expr_fits y (inscribed_on (compare_neither t.kind kind is) refl p.1) in
      (compare_fits n kind a b p.0 q.0, q.1)
  simple_fits {n = n} (IsSimple.negation {c = c} e f x g) d =
      let p = cond_fits x
      (inscribed_open (opening refl refl) f (inscribed_on (neither refl refl refl) e d)) in
      (not_fits n c p.0, inscribed_close (closing refl refl refl) g p.1)
