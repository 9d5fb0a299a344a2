-- What the texts of values promise to a reader.
use Rattle.std.specs.Prelude.{◌≡◌, ◌≢◌, ◌↔◌, ℕ, Bool, ◌||◌, nat_eq, List, [], ◌∷◌, ◌++◌, IsTrue, All}
use Rattle.std.specs.List.{AllByRecursion}
use Rattle.rn_value.specs.Grammar.{IsText}
use Rattle.rn_value.specs.Names.{AreNamed}
use Rattle.rn_value.specs.Text.{value_text}
use Rattle.rn_value.specs.Words.{IsIdentifier}
use Rattle.rn_value.specs.declared.value.Value.{Value}

-- Each of these is an identifier.
abbrev pub AreIdentifiers : List (List ℕ) → Type 0
AreIdentifiers = AllByRecursion IsIdentifier

-- a space, a newline, a comma, `]` or `}`
abbrev pub is_delimiter : ℕ → Bool
is_delimiter c = nat_eq c 32 || nat_eq c 10 || nat_eq c 44 || nat_eq c 93 || nat_eq c 125

-- There are no such bytes, or the first of them is a delimiter.
abbrev pub IsDelimited : List ℕ → Type 0
IsDelimited [] = Unit {0}
IsDelimited (c ∷ rest) = IsTrue (is_delimiter c)

-- The texts of the grammar are exactly those that are written: one for each value whose instances have
-- names, and none for another value.
abbrev pub GrammarIsWritten : Type 0
GrammarIsWritten = (names : List (List ℕ)) (v : Value) (bytes : List ℕ) →
    IsText names v bytes ↔ (AreNamed names v × (bytes ≡ value_text v names))

-- Bytes that begin with a text of a value, which the end or a delimiter follows, begin with a text
-- of no other value, and with no other text: they determine the value, and where its text ends.
abbrev pub TextsDetermineValues : Type 0
TextsDetermineValues = (names : List (List ℕ)) (v w : Value) (a b x y : List ℕ) →
    AreIdentifiers names → IsText names v a → IsText names w b → IsDelimited x → IsDelimited y →
    a ++ x ≡ b ++ y → (v ≡ w) × (x ≡ y)

-- The same of the texts that are written.
abbrev pub WrittenTextsDetermineValues : Type 0
WrittenTextsDetermineValues = (names : List (List ℕ)) (v w : Value) (x y : List ℕ) →
    AreIdentifiers names → AreNamed names v → AreNamed names w → IsDelimited x → IsDelimited y →
    value_text v names ++ x ≡ value_text w names ++ y → (v ≡ w) × (x ≡ y)

-- Of two values whose instances have names, equal texts mean equal values.
abbrev pub OneSpelling : Type 0
OneSpelling = (names : List (List ℕ)) (v w : Value) →
    AreIdentifiers names → AreNamed names v → AreNamed names w →
    value_text v names ≡ value_text w names → v ≡ w

-- No text of a value holds a newline.
abbrev pub TextsStayOnOneLine : Type 0
TextsStayOnOneLine = (names : List (List ℕ)) (v : Value) (bytes : List ℕ) →
    AreIdentifiers names → IsText names v bytes → All (λ c. c ≢ 10) bytes

-- A text of a value stays one as names are added, and by the exactness above no other comes.
abbrev pub TextsStayAsNamesGrow : Type 0
TextsStayAsNamesGrow = (names more : List (List ℕ)) (v : Value) (bytes : List ℕ) →
    IsText names v bytes → IsText (names ++ more) v bytes
