-- The faults of a text that isn't made of tokens. In every case the text goes on with the first
-- bytes up to the fault's spot, and with the rest from there on.
use Rattle.std.specs.Prelude.{◌≡◌, ℕ, ◌<◌, Bool, true, false, ◌||◌, List, [], ◌∷◌, ◌++◌, nat_eq}
use Rattle.std.specs.Prelude.{encode_utf8, encode_utf8_all}
use Rattle.std.specs.Char.{IsScalar}
use Rattle.std.specs.List.{AllByRecursion}
use Rattle.rn_notation.specs.Bytes.{quote, slash}
use Rattle.rn_value.specs.Characters.{is_letter, is_digit}
use Rattle.rn_value.specs.Words.{begins_with}
use Rattle.rn_notation.specs.Words.{is_blank, are_digits, number_of, greatest_number, begins_with_sign}
use Rattle.rn_notation.specs.Texts.{Part, AreParts, written, is_closed, IsInComment, IsBroken}
use Rattle.rn_notation.specs.Texts.{IsNoEscape}
use Rattle.rn_notation.specs.declared.token.Cause.{Cause}
use Rattle.rn_notation.specs.declared.token.Cause.TheVariants.{P1, P3, P4, P7}

-- whether a blank, a letter, a digit or a quote stands at the start
abbrev pub begins_plainly : List ℕ → Bool
begins_plainly [] = false
begins_plainly (c ∷ text) = is_blank c || is_letter c || is_digit c || nat_eq c quote

-- whether a token, a blank or a comment begins at the start (a comment begins as a sign does)
abbrev pub begins_something : List ℕ → Bool
begins_something text = begins_plainly text || begins_with_sign text

-- P1: a character that begins no token, or a backslash in a closed text that is no escape.
-- P3: a number that is too great.
-- P4: bytes that are no UTF-8 character, between tokens, in a comment or in a closed text.
-- P7: a quote that opens a text that isn't closed.
pub data IsFault : Cause → List ℕ → List ℕ → Type 0 where
  stray : (c : ℕ) (after : List ℕ) → IsScalar c →
      begins_something (encode_utf8 c ++ after) ≡ false →
      IsFault P1 [] (encode_utf8 c ++ after)
  no_escape : (parts : List Part) {rest : List ℕ} → AreParts parts → IsNoEscape rest →
      is_closed (written parts ++ rest) ≡ true → IsFault P1 (quote ∷ written parts) rest
  too_great : (digits after : List ℕ) → are_digits digits ≡ true → begins_with is_digit after ≡ false →
      greatest_number < number_of digits → IsFault P3 [] (digits ++ after)
  broken : {rest : List ℕ} → IsBroken rest → IsFault P4 [] rest
  broken_comment : (cs : List ℕ) {rest : List ℕ} → AllByRecursion IsInComment cs → IsBroken rest →
      IsFault P4 (slash ∷ slash ∷ encode_utf8_all cs) rest
  broken_text : (parts : List Part) {rest : List ℕ} → AreParts parts → IsBroken rest →
      is_closed (written parts ++ rest) ≡ true → IsFault P4 (quote ∷ written parts) rest
  not_closed : {after : List ℕ} → is_closed after ≡ false → IsFault P7 [] (quote ∷ after)
