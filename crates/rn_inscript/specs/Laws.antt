-- Laws of readings.
use Rattle.std.specs.Prelude.{◌≡◌, List, ◌∷◌, ◌++◌}
use Rattle.rn_notation.specs.declared.token.Token.{Token}
use Rattle.rn_inscript.specs.declared.exprs.PExpr.{PExpr}
use Rattle.rn_inscript.specs.declared.inscriptions.PInscription.{PInscription}
use Rattle.rn_inscript.specs.Inscriptions.{IsInscription}
use Rattle.rn_inscript.specs.Readings.{IsWholeExpr, IsLongest}

-- a list of tokens stands for one expression at most
abbrev pub OneExpression : Type 0
OneExpression = (tokens : List Token) (a b : PExpr) →
    IsWholeExpr tokens a → IsWholeExpr tokens b → a ≡ b

-- a list of tokens stands for one inscription at most
abbrev pub OneInscription : Type 0
OneInscription = (tokens : List Token) (i j : PInscription) →
    IsInscription tokens i → IsInscription tokens j → i ≡ j

-- the longest prefix of tokens that is a prefix of some expression, or of some inscription, is one
abbrev pub OneLongestExpression : Type 0
OneLongestExpression = (tokens a b : List Token) →
    IsLongest IsWholeExpr tokens a → IsLongest IsWholeExpr tokens b → a ≡ b

abbrev pub OneLongestInscription : Type 0
OneLongestInscription = (tokens a b : List Token) →
    IsLongest IsInscription tokens a → IsLongest IsInscription tokens b → a ≡ b

-- which tokens are taken doesn't depend on those after the first that can't follow
abbrev pub NextDecidesExpression : Type 0
NextDecidesExpression = (taken left others : List Token) (t : Token) →
    IsLongest IsWholeExpr (taken ++ t ∷ left) taken →
    IsLongest IsWholeExpr (taken ++ t ∷ others) taken

abbrev pub NextDecidesInscription : Type 0
NextDecidesInscription = (taken left others : List Token) (t : Token) →
    IsLongest IsInscription (taken ++ t ∷ left) taken →
    IsLongest IsInscription (taken ++ t ∷ others) taken
