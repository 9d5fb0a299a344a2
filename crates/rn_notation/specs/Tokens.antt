-- What stands between tokens, and each kind of token. In every case the first
-- bytes are the blank, comment or token, and the others are the rest: a token is the longest that
-- fits.
use Rattle.std.specs.Prelude.{◌≡◌, ℕ, ◌≤◌, true, false, not, List, [], ◌∷◌, ◌++◌, None, Some, pos}
use Rattle.std.specs.Prelude.{nat_eq, encode_utf8_all}
use Rattle.std.specs.List.{AllByRecursion}
use Rattle.rn_notation.specs.Bytes.{quote, slash, line_feed}
use Rattle.rn_value.specs.Characters.{is_digit, is_name_byte}
use Rattle.rn_value.specs.Words.{begins_with, is_identifier, index_of, reserved_words}
use Rattle.rn_notation.specs.Words.{is_blank, are_digits, number_of, greatest_number}
use Rattle.rn_notation.specs.Words.{signs, is_longest_sign, opens_comment}
use Rattle.rn_notation.specs.Texts.{Part, AreParts, written, meant, IsInComment}
use Rattle.rn_notation.specs.declared.token.TokenKind.{TokenKind}
use Rattle.rn_notation.specs.declared.token.TokenKind.TheVariants.{Name, Word, Number, Text, Sign}

-- A blank, or a comment, which begins with `//` and goes on to the next line feed or the end.
pub data IsGap : List ℕ → List ℕ → Type 0 where
  blank : {c : ℕ} {rest : List ℕ} → is_blank c ≡ true → IsGap (c ∷ []) rest
  comment : (cs : List ℕ) {rest : List ℕ} → AllByRecursion IsInComment cs →
      begins_with (λ c. not (nat_eq c line_feed)) rest ≡ false →
      IsGap (slash ∷ slash ∷ encode_utf8_all cs) rest

-- A token of this kind.
-- A name is a word that isn't reserved, and a reserved word is known by its index among them.
-- Either goes on as long as letters, digits and `_` follow.
-- A number is made of digits, as many as follow, and isn't too great.
-- A text stands in quotes.
-- A sign is known by its index among the signs. No longer one stands there, and no comment.
pub data IsToken : TokenKind → List ℕ → List ℕ → Type 0 where
  name : {word rest : List ℕ} → is_identifier word ≡ true → begins_with is_name_byte rest ≡ false →
      index_of reserved_words word ≡ None → IsToken (Name word) word rest
  word : {k : ℕ} {word rest : List ℕ} → is_identifier word ≡ true → begins_with is_name_byte rest ≡ false →
      index_of reserved_words word ≡ Some k → IsToken (Word k) word rest
  number : {digits rest : List ℕ} → are_digits digits ≡ true → begins_with is_digit rest ≡ false →
      number_of digits ≤ greatest_number → IsToken (Number (pos (number_of digits))) digits rest
  text : (parts : List Part) {rest : List ℕ} → AreParts parts →
      IsToken (Text (meant parts)) (quote ∷ written parts ++ quote ∷ []) rest
  sign : {k : ℕ} {sign rest : List ℕ} → index_of signs sign ≡ Some k →
      is_longest_sign sign (sign ++ rest) ≡ true → opens_comment (sign ++ rest) ≡ false →
      IsToken (Sign k) sign rest
