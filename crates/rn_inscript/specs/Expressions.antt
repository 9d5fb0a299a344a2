-- Expressions. Each fact is about the tokens from somewhere on: they begin with a phrase that
-- stands for this, and the last tokens named come after it.
use Rattle.std.specs.Prelude.{◌≡◌, ℕ, ℤ, List, [], ◌∷◌, ◌++◌, codes, Some}
use Rattle.rn_notation.specs.declared.token.Token.{Token}
use Rattle.rn_notation.specs.declared.token.Spot.{Spot}
use Rattle.rn_notation.specs.declared.token.TokenKind.{TokenKind}
use Rattle.rn_notation.specs.declared.token.TokenKind.TheVariants.{Name, Number, Text}
use Rattle.rn_model.specs.declared.expr.OpKind.{OpKind}
use Rattle.rn_inscript.specs.declared.exprs.PExpr.{PExpr, roll-PExpr, out-PExpr}
use Rattle.rn_inscript.specs.declared.exprs.PForm.{PForm}
use Rattle.rn_inscript.specs.declared.exprs.PForm.TheVariants as F
use Rattle.rn_inscript.specs.Signs.{open_brace, close_brace, open_bracket, close_bracket}
use Rattle.rn_inscript.specs.Signs.{open_paren, close_paren, comma, colon, minus, this_word}
use Rattle.rn_inscript.specs.Signs.{plus_of, times_of}

-- the expression of this form whose spot is this
abbrev pub at_spot : Spot → PForm → PExpr
at_spot spot form = roll-PExpr (record { form = form; spot = spot })

-- the expression that an operator joins stands where its left side does
abbrev pub joined : OpKind → PExpr → PExpr → PExpr
joined op a b = at_spot (out-PExpr a).spot (F.Op op a b)

-- a token of this kind
abbrev pub token_at : Spot → TokenKind → Token
token_at spot kind = record { kind = kind; start = 0; end = 0; spot = spot }

-- An expression is one or more products between which `+` and `-` stand, a product one or more
-- unary expressions between which `*`, `/` and `%` stand. What stands before a sign has been joined
-- already: these signs associate to the left.
mutual
  pub data IsExpr : List Token → PExpr → List Token → Type 0 where
    sum : {ts mid rest : List Token} {a e : PExpr} →
        IsProduct ts a mid → IsTerms a mid e rest → IsExpr ts e rest

  -- the sum so far, and what is added to it
  pub data IsTerms : PExpr → List Token → PExpr → List Token → Type 0 where
    no_more_terms : {e : PExpr} {rest : List Token} → IsTerms e rest e rest
    more_terms : {t : Token} {ts mid rest : List Token} {op : OpKind} {a b e : PExpr} →
        plus_of t.kind ≡ Some op → IsProduct ts b mid → IsTerms (joined op a b) mid e rest →
        IsTerms a (t ∷ ts) e rest

  -- operands between which `*`, `/` and `%` stand
  pub data IsProduct : List Token → PExpr → List Token → Type 0 where
    product : {ts mid rest : List Token} {a e : PExpr} →
        IsUnary ts a mid → IsFactors a mid e rest → IsProduct ts e rest

  -- the product so far, and what it is multiplied with or divided by
  pub data IsFactors : PExpr → List Token → PExpr → List Token → Type 0 where
    no_more_factors : {e : PExpr} {rest : List Token} → IsFactors e rest e rest
    more_factors : {t : Token} {ts mid rest : List Token} {op : OpKind} {a b e : PExpr} →
        times_of t.kind ≡ Some op → IsUnary ts b mid → IsFactors (joined op a b) mid e rest →
        IsFactors a (t ∷ ts) e rest

  -- an operand with any number of minuses before it
  pub data IsUnary : List Token → PExpr → List Token → Type 0 where
    negative : {t : Token} {ts rest : List Token} {e : PExpr} →
        t.kind ≡ minus → IsUnary ts e rest → IsUnary (t ∷ ts) (at_spot t.spot (F.Neg e)) rest
    primary : {ts rest : List Token} {e : PExpr} → IsPrimary ts e rest → IsUnary ts e rest

  -- an operand: one token, `step()`, or what stands in brackets
  pub data IsPrimary : List Token → PExpr → List Token → Type 0 where
    number : {t : Token} {rest : List Token} {n : ℤ} →
        t.kind ≡ Number n → IsPrimary (t ∷ rest) (at_spot t.spot (F.Int n)) rest
    text : {t : Token} {rest : List Token} {s : List ℕ} →
        t.kind ≡ Text s → IsPrimary (t ∷ rest) (at_spot t.spot (F.Text s)) rest
    name : {t : Token} {rest : List Token} {s : List ℕ} →
        t.kind ≡ Name s → IsPrimary (t ∷ rest) (at_spot t.spot (F.Name s)) rest
    this : {t : Token} {rest : List Token} →
        t.kind ≡ this_word → IsPrimary (t ∷ rest) (at_spot t.spot F.This) rest
    step : {t u v : Token} {rest : List Token} →
        t.kind ≡ Name (codes "step") → u.kind ≡ open_paren → v.kind ≡ close_paren →
        IsPrimary (t ∷ u ∷ v ∷ rest) (at_spot t.spot F.Step) rest
    tuple : {t : Token} {ts rest : List Token} {es : List PExpr} →
        t.kind ≡ open_bracket → IsListed close_bracket ts es rest →
        IsPrimary (t ∷ ts) (at_spot t.spot (F.Tuple es)) rest
    list : {t : Token} {ts rest : List Token} {es : List PExpr} →
        t.kind ≡ open_brace → IsListed close_brace ts es rest →
        IsPrimary (t ∷ ts) (at_spot t.spot (F.List es)) rest
    list_with_tail : {t u v : Token} {ts us rest : List Token} {es : List PExpr} {e : PExpr} →
        t.kind ≡ open_brace → IsExprs ts es (u ∷ us) → u.kind ≡ colon →
        IsExpr us e (v ∷ rest) → v.kind ≡ close_brace →
        IsPrimary (t ∷ ts) (at_spot t.spot (F.Cons es e)) rest
    parentheses : {t u : Token} {ts rest : List Token} {e : PExpr} →
        t.kind ≡ open_paren → IsExpr ts e (u ∷ rest) → u.kind ≡ close_paren →
        IsPrimary (t ∷ ts) e rest

  -- what stands after an opening bracket, up to and with the closing one: expressions between which
  -- commas stand, or none
  pub data IsListed : TokenKind → List Token → List PExpr → List Token → Type 0 where
    nothing : {close : TokenKind} {u : Token} {rest : List Token} →
        u.kind ≡ close → IsListed close (u ∷ rest) [] rest
    some : {close : TokenKind} {u : Token} {ts rest : List Token} {es : List PExpr} →
        IsExprs ts es (u ∷ rest) → u.kind ≡ close → IsListed close ts es rest

  -- one or more expressions between which commas stand
  pub data IsExprs : List Token → List PExpr → List Token → Type 0 where
    exprs : {ts mid rest : List Token} {e : PExpr} {es : List PExpr} →
        IsExpr ts e mid → IsMoreExprs (e ∷ []) mid es rest → IsExprs ts es rest

  -- the expressions so far, and those that follow them
  pub data IsMoreExprs : List PExpr → List Token → List PExpr → List Token → Type 0 where
    no_more_exprs : {es : List PExpr} {rest : List Token} → IsMoreExprs es rest es rest
    more_exprs : {t : Token} {ts mid rest : List Token} {before es : List PExpr} {e : PExpr} →
        t.kind ≡ comma → IsExpr ts e mid → IsMoreExprs (before ++ e ∷ []) mid es rest →
        IsMoreExprs before (t ∷ ts) es rest
