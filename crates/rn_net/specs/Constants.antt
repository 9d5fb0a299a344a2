-- Constants: the initial tokens of places. Each fact is about the tokens from somewhere on, as with
-- kinds.
use Rattle.std.specs.Prelude.{◌≡◌, ℕ, ℤ, neg_ℤ, List, [], ◌∷◌, ◌++◌}
use Rattle.rn_notation.specs.declared.token.Token.{Token}
use Rattle.rn_notation.specs.declared.token.Spot.{Spot}
use Rattle.rn_notation.specs.declared.token.TokenKind.{TokenKind}
use Rattle.rn_notation.specs.declared.token.TokenKind.TheVariants.{Number, Text}
use Rattle.rn_inscript.specs.Signs.{open_brace, close_brace, open_bracket, close_bracket}
use Rattle.rn_inscript.specs.Signs.{comma, minus}
use Rattle.rn_net.specs.declared.constants.PConst.{PConst, roll-PConst}
use Rattle.rn_net.specs.declared.constants.PConstForm.{PConstForm}
use Rattle.rn_net.specs.declared.constants.PConstForm.TheVariants as C

-- the constant of this form whose spot is this
abbrev pub constant_at : Spot → PConstForm → PConst
constant_at spot form = roll-PConst (record { form = form; spot = spot })

-- A constant is a number with or without `-` before it, a text, a tuple or a list.
mutual
  pub data IsConstant : List Token → PConst → List Token → Type 0 where
    number : {t : Token} {rest : List Token} {n : ℤ} →
        t.kind ≡ Number n → IsConstant (t ∷ rest) (constant_at t.spot (C.Int n)) rest
    negative : {t u : Token} {rest : List Token} {n : ℤ} →
        t.kind ≡ minus → u.kind ≡ Number n →
        IsConstant (t ∷ u ∷ rest) (constant_at t.spot (C.Int (neg_ℤ n))) rest
    text : {t : Token} {rest : List Token} {s : List ℕ} →
        t.kind ≡ Text s → IsConstant (t ∷ rest) (constant_at t.spot (C.Text s)) rest
    tuple : {t : Token} {ts rest : List Token} {items : List PConst} →
        t.kind ≡ open_bracket → AreItems close_bracket ts items rest →
        IsConstant (t ∷ ts) (constant_at t.spot (C.Tuple items)) rest
    list : {t : Token} {ts rest : List Token} {items : List PConst} →
        t.kind ≡ open_brace → AreItems close_brace ts items rest →
        IsConstant (t ∷ ts) (constant_at t.spot (C.List items)) rest

  -- what stands after an opening bracket, up to and with the closing one: constants between which
  -- commas stand, or none
  pub data AreItems : TokenKind → List Token → List PConst → List Token → Type 0 where
    nothing : {close : TokenKind} {u : Token} {rest : List Token} →
        u.kind ≡ close → AreItems close (u ∷ rest) [] rest
    some : {close : TokenKind} {u : Token} {ts rest : List Token} {items : List PConst} →
        AreConstants ts items (u ∷ rest) → u.kind ≡ close → AreItems close ts items rest

  pub data AreConstants : List Token → List PConst → List Token → Type 0 where
    constants : {ts mid rest : List Token} {item : PConst} {all : List PConst} →
        IsConstant ts item mid → AreMoreConstants (item ∷ []) mid all rest →
        AreConstants ts all rest

  -- the constants so far, and those that follow them
  pub data AreMoreConstants : List PConst → List Token → List PConst → List Token → Type 0 where
    no_more_constants : {all : List PConst} {rest : List Token} → AreMoreConstants all rest all rest
    more_constants : {t : Token} {ts mid rest : List Token} {before all : List PConst}
        {item : PConst} →
        t.kind ≡ comma → IsConstant ts item mid →
        AreMoreConstants (before ++ item ∷ []) mid all rest →
        AreMoreConstants before (t ∷ ts) all rest
