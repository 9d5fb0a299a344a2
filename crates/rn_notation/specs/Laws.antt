-- Laws of texts and tokens.
use Rattle.std.specs.Prelude.{◌≡◌, ℕ, List}
use Rattle.rn_notation.specs.Reading.{Tokens, FirstFault}
use Rattle.rn_notation.specs.declared.token.Token.{Token}
use Rattle.rn_notation.specs.declared.token.LexFault.{LexFault}

-- a text is one list of tokens at most
abbrev pub OneReading : Type 0
OneReading = (text : List ℕ) (s t : List Token) → Tokens text s → Tokens text t → s ≡ t

-- a text has one first fault at most, after one list of tokens
abbrev pub OneFault : Type 0
OneFault = (text : List ℕ) (s t : List Token) (f g : LexFault) →
    FirstFault text s f → FirstFault text t g → (s ≡ t) × (f ≡ g)

-- no text is tokens and has a fault
abbrev pub NoFaultInTokens : Type 0
NoFaultInTokens = (text : List ℕ) (s t : List Token) (f : LexFault) →
    Tokens text s → ¬ FirstFault text t f
