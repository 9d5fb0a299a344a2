-- The signs and the reserved words by name, as the constants of `sign` and of `word`.
use Rattle.std.specs.Prelude.{◌≡◌, ℕ, List, [], ◌∷◌, codes}
use Rattle.std.specs.List.{enumerate_from}
use Rattle.rn_notation.specs.declared.sign.TheConstants as sign
use Rattle.rn_notation.specs.declared.word.TheConstants as word
use Rattle.rn_value.specs.Words.{reserved_words}
use Rattle.rn_notation.specs.Words.{signs}

-- each constant of `sign` with its sign
abbrev pub named_signs : List (ℕ × List ℕ)
named_signs =
    (sign.LEFT_BRACE, codes "{") ∷ (sign.RIGHT_BRACE, codes "}") ∷
    (sign.LEFT_BRACKET, codes "[") ∷ (sign.RIGHT_BRACKET, codes "]") ∷
    (sign.LEFT_PAREN, codes "(") ∷ (sign.RIGHT_PAREN, codes ")") ∷ (sign.COMMA, codes ",") ∷
    (sign.SEMICOLON, codes ";") ∷ (sign.COLON, codes ":") ∷ (sign.EQUALS, codes "=") ∷
    (sign.SAME, codes "==") ∷ (sign.DIFFERS, codes "!=") ∷ (sign.LESS, codes "<") ∷
    (sign.AT_MOST, codes "<=") ∷ (sign.GREATER, codes ">") ∷ (sign.AT_LEAST, codes ">=") ∷
    (sign.PLUS, codes "+") ∷ (sign.MINUS, codes "-") ∷ (sign.STAR, codes "*") ∷
    (sign.SLASH, codes "/") ∷ (sign.PERCENT, codes "%") ∷ (sign.AND, codes "&&") ∷
    (sign.OR, codes "||") ∷ (sign.NOT, codes "!") ∷ []

-- each constant of `word` with its reserved word
abbrev pub named_words : List (ℕ × List ℕ)
named_words =
    (word.NET, codes "net") ∷ (word.PLACE, codes "place") ∷ (word.TRANS, codes "trans") ∷
    (word.CHANNEL, codes "channel") ∷ (word.VAR, codes "var") ∷ (word.IN, codes "in") ∷
    (word.OUT, codes "out") ∷ (word.TEST, codes "test") ∷ (word.RESERVE, codes "reserve") ∷
    (word.FLEXIN, codes "flexin") ∷ (word.FLEXOUT, codes "flexout") ∷
    (word.INHIBIT, codes "inhibit") ∷ (word.CLEAR, codes "clear") ∷ (word.GUARD, codes "guard") ∷
    (word.ACTION, codes "action") ∷ (word.PRINT, codes "print") ∷ (word.NEW, codes "new") ∷
    (word.THIS, codes "this") ∷ (word.INT, codes "int") ∷ (word.TEXT, codes "text") ∷ []

-- the constants are the numbers of their signs, and no sign is without one
abbrev pub SignsAreNamed : Type 0
SignsAreNamed = named_signs ≡ enumerate_from 0 signs

-- the constants are the numbers of their reserved words, and no word is without one
abbrev pub WordsAreNamed : Type 0
WordsAreNamed = named_words ≡ enumerate_from 0 reserved_words
