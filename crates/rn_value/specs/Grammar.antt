-- The grammar of texts of values: which bytes are a text, and of which value. It is a relation by
-- rules, and knows nothing of the writer.
--
-- Of the bytes below 34 is `"`, 44 `,`, 45 `-`, 91 `[`, 92 `\`, 93 `]`, 123 `{` and 125 `}`, and the
-- digits are 48 to 57.
use Rattle.std.specs.Prelude.{◌≡◌, ◌≢◌, ℕ, suc, ◌+◌, ◌*◌, ◌<◌, ℤ, pos, negsuc, List, [], ◌∷◌, ◌++◌, Some}
use Rattle.rn_value.specs.Names.{name_of}
use Rattle.rn_value.specs.declared.value.InstRef.TheVariants.{Old}
use Rattle.rn_value.specs.declared.value.Value.{Value}
use Rattle.rn_value.specs.declared.value.Value.TheVariants as Value

-- A numeral is one digit, or the numeral of a number that isn't 0 and one more digit. So none
-- begins with 0, but for the numeral of 0.
pub data IsNumeral : ℕ → List ℕ → Type 0 where
  digit : {d : ℕ} → d < 10 → IsNumeral d ((48 + d) ∷ [])
  more : {n d : ℕ} {prefix : List ℕ} →
      0 < n → IsNumeral n prefix → d < 10 → IsNumeral (n * 10 + d) (prefix ++ (48 + d) ∷ [])

-- A whole number is a numeral, with `-` before it where the number is negative.
pub data IsWholeNumber : ℤ → List ℕ → Type 0 where
  positive : {n : ℕ} {digits : List ℕ} → IsNumeral n digits → IsWholeNumber (pos n) digits
  negative : {n : ℕ} {digits : List ℕ} →
      IsNumeral (suc n) digits → IsWholeNumber (negsuc n) (45 ∷ digits)

-- The quote, the backslash, the newline and the tab stand after a backslash, as `\"`, `\\`, `\n`
-- and `\t`, and each other byte stands for itself.
pub data IsEscaped : ℕ → List ℕ → Type 0 where
  quote : IsEscaped 34 (92 ∷ 34 ∷ [])
  backslash : IsEscaped 92 (92 ∷ 92 ∷ [])
  newline : IsEscaped 10 (92 ∷ 110 ∷ [])
  tab : IsEscaped 9 (92 ∷ 116 ∷ [])
  itself : {c : ℕ} → c ≢ 34 → c ≢ 92 → c ≢ 10 → c ≢ 9 → IsEscaped c (c ∷ [])

-- What stands between the quotes of a text is the bytes of the text, one after the other.
pub data IsInside : List ℕ → List ℕ → Type 0 where
  empty : IsInside [] []
  byte : {c : ℕ} {text written rest : List ℕ} →
      IsEscaped c written → IsInside text rest → IsInside (c ∷ text) (written ++ rest)

-- Texts of values, by these names of instances.
mutual
  -- Of a value: a whole number; a text in quotes; a tuple in `[` and `]`; a list in `{` and `}`; or
  -- an instance that exists, as its name and its number in `[` and `]`.
  pub data IsText (names : List (List ℕ)) : Value → List ℕ → Type 0 where
    number : {n : ℤ} {bytes : List ℕ} → IsWholeNumber n bytes → IsText names (Value.Int n) bytes
    text : {s bytes : List ℕ} →
        IsInside s bytes → IsText names (Value.Text s) (34 ∷ bytes ++ 34 ∷ [])
    tuple : {vs : List Value} {bytes : List ℕ} →
        IsRow names vs bytes → IsText names (Value.Tuple vs) (91 ∷ bytes ++ 93 ∷ [])
    list : {vs : List Value} {bytes : List ℕ} →
        IsRow names vs bytes → IsText names (Value.List vs) (123 ∷ bytes ++ 125 ∷ [])
    instance : {number : ℕ} {name digits : List ℕ} →
        name_of names number ≡ Some name → IsNumeral number digits →
        IsText names (Value.Inst (Old number)) (name ++ (91 ∷ digits ++ 93 ∷ []))

  -- Of the items of a tuple or a list: nothing, or an item and those that follow it.
  pub data IsRow (names : List (List ℕ)) : List Value → List ℕ → Type 0 where
    none : IsRow names [] []
    some : {v : Value} {vs : List Value} {bytes rest : List ℕ} →
        IsText names v bytes → IsTail names vs rest → IsRow names (v ∷ vs) (bytes ++ rest)

  -- Of the items that follow another: each has a comma before it.
  pub data IsTail (names : List (List ℕ)) : List Value → List ℕ → Type 0 where
    end : IsTail names [] []
    comma : {v : Value} {vs : List Value} {bytes rest : List ℕ} →
        IsText names v bytes → IsTail names vs rest → IsTail names (v ∷ vs) (44 ∷ (bytes ++ rest))
