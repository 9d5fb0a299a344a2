-- The lists of a condition with numbers in place of names.
use Rattle.std.proofs.Common.{◌≡◌, ℕ, ◌+◌, ◌<◌, List, [], ◌∷◌, ◌++◌, length, map, take, get_or, sym, ap, ◌∙◌, refl}
use Rattle.std.proofs.lemmas.List.{map-append}
use Rattle.rn_model.specs.declared.expr.Cond.{Cond, roll-Cond}
use Rattle.rn_model.specs.declared.expr.Simple.{Simple}
use Rattle.rn_inscript.specs.declared.exprs.PExpr.{PExpr}
use Rattle.rn_inscript.specs.declared.conds.PSimple.{PSimple}
use Rattle.rn_inscript.specs.declared.conds.PCond.{PCond, fold_out-PCond}
use Rattle.rn_numbered.specs.Numbered.{expr_of, cond_of, simple_of_form}
use Rattle.rn_numbered.specs.link.Parts.{simple_of}
use Rattle.rn_items.proofs.Lists.{map_more}

module _ (var : List ℕ → ℕ) where
  abbrev list_of : List PSimple → List Simple
  list_of simples = map (λ numbered. numbered var) (map simple_of simples)

  abbrev lists_of : List (List PSimple) → List (List Simple)
  lists_of lists = map (map (λ numbered. numbered var)) (map (map simple_of) lists)

  -- one more list
  pub numbered_more : (lists : List (List PSimple)) (i : ℕ) (x : List PSimple)
      (made : List (List Simple)) (one : List Simple) (now : List (List Simple)) →
      i < length lists → x ≡ get_or lists i x → made ≡ lists_of (take i lists) → one ≡ list_of x →
      now ≡ made ++ one ∷ [] → now ≡ lists_of (take (i + 1) lists)
  numbered_more lists i x made one now h is before numbered pushed =
      pushed
      ∙ ap (λ ys. ys ++ one ∷ []) before
      ∙ ap (λ y. lists_of (take i lists) ++ y ∷ []) numbered
      ∙ sym
      (ap (map (map (λ numbered. numbered var))) (map_more (map simple_of) lists i x h is)
      ∙ map-append (map (λ numbered. numbered var)) (map (map simple_of) (take i lists))
      (map simple_of x ∷ []))

  -- the condition of all lists
  pub numbered_cond : (cond : PCond) (any : List (List Simple)) → any ≡ lists_of cond.any →
      roll-Cond (record { any = any }) ≡ cond_of cond var
  numbered_cond cond any is =
      ap (λ xs. roll-Cond (record { any = xs })) is
      ∙ sym
      (ap (λ f. f var)
      (fold_out-PCond ((List ℕ → ℕ) → Simple) ((List ℕ → ℕ) → Cond) simple_of_form
      (λ cond var. roll-Cond (record { any = map (map (λ simple. simple var)) cond.any })) cond))

-- one expression after another, each numbered at once
pub exprs_are : (es : List PExpr) (var : List ℕ → ℕ) →
    map (λ numbered. numbered var) (map expr_of es) ≡ map (λ e. expr_of e var) es
exprs_are [] var = refl
exprs_are (e ∷ es) var = ap (λ xs. expr_of e var ∷ xs) (exprs_are es var)
