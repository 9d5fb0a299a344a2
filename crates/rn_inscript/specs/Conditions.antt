-- Conditions of guards. Each fact is one of the tokens from somewhere on, as with expressions.
use Rattle.std.specs.Prelude.{◌≡◌, List, [], ◌∷◌, ◌++◌, Some}
use Rattle.rn_notation.specs.declared.token.Token.{Token}
use Rattle.rn_model.specs.declared.expr.CompareKind.{CompareKind}
use Rattle.rn_inscript.specs.declared.exprs.PExpr.{PExpr}
use Rattle.rn_inscript.specs.declared.conds.PCond.{PCond, roll-PCond}
use Rattle.rn_inscript.specs.declared.conds.PSimple.{PSimple}
use Rattle.rn_inscript.specs.declared.conds.PSimple.TheVariants as S
use Rattle.rn_inscript.specs.Expressions.{IsExpr}
use Rattle.rn_inscript.specs.Signs.{and_sign, or_sign, not_sign, open_paren, close_paren, compare_of}

-- the condition whose alternatives are these
abbrev pub any_of : List (List PSimple) → PCond
any_of alternatives = roll-PCond (record { any = alternatives })

-- A condition is one or more alternatives between which `||` stands, and each of them one or more
-- simple conditions between which `&&` stands. So `&&` binds more than `||`.
mutual
  pub data IsCond : List Token → PCond → List Token → Type 0 where
    any : {ts rest : List Token} {all : List (List PSimple)} →
        IsAlternatives ts all rest → IsCond ts (any_of all) rest

  -- one or more alternatives between which `||` stands
  pub data IsAlternatives : List Token → List (List PSimple) → List Token → Type 0 where
    alternatives : {ts mid rest : List Token} {b : List PSimple} {all : List (List PSimple)} →
        IsBoth ts b mid → IsMoreAlternatives (b ∷ []) mid all rest → IsAlternatives ts all rest

  -- the alternatives so far, and those that follow them
  pub data IsMoreAlternatives :
      List (List PSimple) → List Token → List (List PSimple) → List Token → Type 0 where
    no_more_alternatives : {all : List (List PSimple)} {rest : List Token} →
        IsMoreAlternatives all rest all rest
    more_alternatives : {t : Token} {ts mid rest : List Token} {before all : List (List PSimple)}
        {b : List PSimple} →
        t.kind ≡ or_sign → IsBoth ts b mid → IsMoreAlternatives (before ++ b ∷ []) mid all rest →
        IsMoreAlternatives before (t ∷ ts) all rest

  -- one or more simple conditions between which `&&` stands
  pub data IsBoth : List Token → List PSimple → List Token → Type 0 where
    both : {ts mid rest : List Token} {s : PSimple} {all : List PSimple} →
        IsSimple ts s mid → IsMoreBoth (s ∷ []) mid all rest → IsBoth ts all rest

  -- the simple conditions so far, and those that follow them
  pub data IsMoreBoth : List PSimple → List Token → List PSimple → List Token → Type 0 where
    no_more_both : {all : List PSimple} {rest : List Token} → IsMoreBoth all rest all rest
    more_both : {t : Token} {ts mid rest : List Token} {before all : List PSimple} {s : PSimple} →
        t.kind ≡ and_sign → IsSimple ts s mid → IsMoreBoth (before ++ s ∷ []) mid all rest →
        IsMoreBoth before (t ∷ ts) all rest

  -- an expression alone, a comparison, or a negation, whose condition stands in parentheses
  pub data IsSimple : List Token → PSimple → List Token → Type 0 where
    bare : {ts rest : List Token} {a : PExpr} → IsExpr ts a rest → IsSimple ts (S.Bare a) rest
    compare : {t : Token} {ts us rest : List Token} {kind : CompareKind} {a b : PExpr} →
        IsExpr ts a (t ∷ us) → compare_of t.kind ≡ Some kind → IsExpr us b rest →
        IsSimple ts (S.Compare kind a b) rest
    negation : {t u v : Token} {ts rest : List Token} {c : PCond} →
        t.kind ≡ not_sign → u.kind ≡ open_paren → IsCond ts c (v ∷ rest) →
        v.kind ≡ close_paren → IsSimple (t ∷ u ∷ ts) (S.Not c) rest
