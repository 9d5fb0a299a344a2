-- Kinds. Each fact is about the tokens from somewhere on: they begin with a phrase that stands for
-- this, and the last tokens named come after it.
use Rattle.std.specs.Prelude.{◌≡◌, List, [], ◌∷◌, ◌++◌}
use Rattle.rn_notation.specs.declared.token.Token.{Token}
use Rattle.rn_notation.specs.declared.token.Spot.{Spot}
use Rattle.rn_notation.specs.declared.token.TokenKind.{TokenKind}
use Rattle.rn_inscript.specs.Signs.{open_brace, close_brace, open_bracket, close_bracket, comma}
use Rattle.rn_net.specs.declared.kinds.PKind.{PKind, roll-PKind}
use Rattle.rn_net.specs.declared.kinds.PKindForm.{PKindForm}
use Rattle.rn_net.specs.declared.kinds.PKindForm.TheVariants as K
use Rattle.rn_net.specs.Words.{int_word, text_word, net_word}

-- the kind of this form whose spot is this
abbrev pub kind_at : Spot → PKindForm → PKind
kind_at spot form = roll-PKind (record { form = form; spot = spot })

-- A kind is `int`, `text`, `net`, a tuple of any number of kinds, or a list of one kind.
mutual
  pub data IsKind : List Token → PKind → List Token → Type 0 where
    int : {t : Token} {rest : List Token} →
        t.kind ≡ int_word → IsKind (t ∷ rest) (kind_at t.spot K.Int) rest
    text : {t : Token} {rest : List Token} →
        t.kind ≡ text_word → IsKind (t ∷ rest) (kind_at t.spot K.Text) rest
    net : {t : Token} {rest : List Token} →
        t.kind ≡ net_word → IsKind (t ∷ rest) (kind_at t.spot K.Net) rest
    tuple : {t : Token} {ts rest : List Token} {kinds : List PKind} →
        t.kind ≡ open_bracket → AreListed close_bracket ts kinds rest →
        IsKind (t ∷ ts) (kind_at t.spot (K.Tuple kinds)) rest
    list : {t u : Token} {ts rest : List Token} {kind : PKind} →
        t.kind ≡ open_brace → IsKind ts kind (u ∷ rest) → u.kind ≡ close_brace →
        IsKind (t ∷ ts) (kind_at t.spot (K.List kind)) rest

  -- what stands after an opening bracket, up to and with the closing one: kinds between which
  -- commas stand, or none
  pub data AreListed : TokenKind → List Token → List PKind → List Token → Type 0 where
    nothing : {close : TokenKind} {u : Token} {rest : List Token} →
        u.kind ≡ close → AreListed close (u ∷ rest) [] rest
    some : {close : TokenKind} {u : Token} {ts rest : List Token} {kinds : List PKind} →
        AreKinds ts kinds (u ∷ rest) → u.kind ≡ close → AreListed close ts kinds rest

  pub data AreKinds : List Token → List PKind → List Token → Type 0 where
    kinds : {ts mid rest : List Token} {kind : PKind} {all : List PKind} →
        IsKind ts kind mid → AreMoreKinds (kind ∷ []) mid all rest → AreKinds ts all rest

  -- the kinds so far, and those that follow them
  pub data AreMoreKinds : List PKind → List Token → List PKind → List Token → Type 0 where
    no_more_kinds : {all : List PKind} {rest : List Token} → AreMoreKinds all rest all rest
    more_kinds : {t : Token} {ts mid rest : List Token} {before all : List PKind} {kind : PKind} →
        t.kind ≡ comma → IsKind ts kind mid → AreMoreKinds (before ++ kind ∷ []) mid all rest →
        AreMoreKinds before (t ∷ ts) all rest
