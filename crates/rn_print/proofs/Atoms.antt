-- The tokens and blanks that canonical texts are made of stand where they are written.
use Rattle.std.proofs.Common.{◌≡◌, ℕ, ◌+◌, ◌*◌, ◌-◌, ◌≤◌, pos, Bool, true, false, ◌||◌, List, [], ◌∷◌, ◌++◌, refl, sym, ap, ◌∙◌, subst, arith, true≢false}
use Rattle.std.specs.Prelude.{codes, None, nat_eq}
use Rattle.rn_value.specs.Characters.{is_letter, is_digit, number_after}
use Rattle.rn_value.specs.Words.{begins_with, is_identifier, index_of, reserved_words}
use Rattle.rn_value.specs.Text.{numeral, quoted}
use Rattle.rn_value.specs.Grammar.{IsNumeral}
use Rattle.rn_value.specs.Grammar.IsNumeral.{digit, more}
use Rattle.rn_value.proofs.Numerals.{IsNumeral-numeral, IsNumeral-digits, IsNumeral-first}
use Rattle.rn_notation.specs.Words.{signs, number_of, are_digits, greatest_number}
use Rattle.rn_notation.specs.Texts.{Part, AreParts, meant}
use Rattle.rn_notation.specs.Tokens.{IsGap, IsToken}
use Rattle.rn_notation.specs.Reading.{gap, token}
use Rattle.rn_notation.specs.declared.token.TokenKind.{TokenKind}
use Rattle.rn_notation.specs.declared.token.TokenKind.TheVariants.{Name, Number, Text, Sign}
use Rattle.rn_print.proofs.Trees.{Tree, piece, both, Stops, Stands}
use Rattle.rn_print.proofs.QuotedTexts.{quoted_stands}

-- what a token may stand for: a name, a number that isn't too great, and a text of UTF-8
abbrev pub Legal : TokenKind → Type 0
Legal (Name s) = (is_identifier s ≡ true) × (index_of reserved_words s ≡ None)
Legal (Number z) = (n : ℕ) × (z ≡ pos n) × (n ≤ greatest_number)
Legal (Text s) = (parts : List Part) × AreParts parts × (s ≡ meant parts)
Legal _ = Unit {0}

-- the number that digits spell, with one more
number_push : (n d : ℕ) (ds : List ℕ) →
    number_after n (ds ++ d ∷ []) ≡ number_after n ds * 10 + (d - 48)
number_push n d [] = refl
number_push n d (e ∷ ds) = number_push (n * 10 + (e - 48)) d ds

number_of-numeral : {n : ℕ} {digits : List ℕ} → IsNumeral n digits → number_of digits ≡ n
number_of-numeral (digit {d = d} h) = omega arith
number_of-numeral (more {n = n} {d = d} {prefix = prefix} low is h) =
    let before = number_of-numeral is in
    number_push 0 (48 + d) prefix ∙ omega (arith, before)

digits_begin : {n : ℕ} {digits : List ℕ} → IsNumeral n digits → are_digits digits ≡ true
digits_begin {digits = digits} is =
    let first = IsNumeral-first is in
    let begins : begins_with is_digit digits ≡ true = ap (begins_with is_digit) first.2 ∙ first.3 in
    rw (begins, IsNumeral-digits is) refl

-- a digit is a byte of names
no_digit : (rest : List ℕ) → Stops rest → begins_with is_digit rest ≡ false
no_digit [] h = refl
no_digit (c ∷ rest) h = by (is_letter c) (is_digit c) (nat_eq c 95) h
  where
    by : (x y z : Bool) → (x || y || z) ≡ false → y ≡ false
    by false false z h = refl
    by true y z h = absurd (true≢false h)
    by false true z h = absurd (true≢false h)

-- the numeral of a number that isn't too great is its token, where no byte of a name follows
pub number_stands : (n : ℕ) (rest : List ℕ) → n ≤ greatest_number → Stops rest →
    IsToken (Number (pos n)) (numeral n) rest
number_stands n rest low h =
    let is = IsNumeral-numeral n in
    let same = number_of-numeral is in
    subst (λ m. IsToken (Number (pos m)) (numeral n) rest) same
    (IsToken.number (digits_begin is) (no_digit rest h) (omega (arith, same)))

pub name_stands : (s rest : List ℕ) → Legal (Name s) → Stops rest → IsToken (Name s) s rest
name_stands s rest is h = IsToken.name is.0 h is.1

pub text_stands : (s rest : List ℕ) → Legal (Text s) → IsToken (Text s) (quoted s) rest
text_stands s rest (parts, are, same) =
    subst (λ s. IsToken (Text s) (quoted s) rest) (sym same) (quoted_stands parts rest are)

-- a sign that stands whatever follows it
abbrev pub Anywhere : ℕ → List ℕ → Type 0
Anywhere k sign = (rest : List ℕ) → IsToken (Sign k) sign rest

-- a sign that stands where a space follows it
abbrev pub Spaced : ℕ → List ℕ → Type 0
Spaced k sign = (rest : List ℕ) → IsToken (Sign k) sign (32 ∷ rest)

pub open_brace_stands : Anywhere 0 (codes "{")
unfolding signs
open_brace_stands rest = IsToken.sign refl refl refl

pub close_brace_stands : Anywhere 1 (codes "}")
unfolding signs
close_brace_stands rest = IsToken.sign refl refl refl

pub open_bracket_stands : Anywhere 2 (codes "[")
unfolding signs
open_bracket_stands rest = IsToken.sign refl refl refl

pub close_bracket_stands : Anywhere 3 (codes "]")
unfolding signs
close_bracket_stands rest = IsToken.sign refl refl refl

pub open_paren_stands : Anywhere 4 (codes "(")
unfolding signs
open_paren_stands rest = IsToken.sign refl refl refl

pub close_paren_stands : Anywhere 5 (codes ")")
unfolding signs
close_paren_stands rest = IsToken.sign refl refl refl

pub comma_stands : Anywhere 6 (codes ",")
unfolding signs
comma_stands rest = IsToken.sign refl refl refl

pub semicolon_stands : Anywhere 7 (codes ";")
unfolding signs
semicolon_stands rest = IsToken.sign refl refl refl

pub colon_stands : Anywhere 8 (codes ":")
unfolding signs
colon_stands rest = IsToken.sign refl refl refl

pub minus_stands : Anywhere 17 (codes "-")
unfolding signs
minus_stands rest = IsToken.sign refl refl refl

pub not_stands : (rest : List ℕ) → IsToken (Sign 23) (codes "!") (40 ∷ rest)
unfolding signs
not_stands rest = IsToken.sign refl refl refl

pub equals_stands : Spaced 9 (codes "=")
unfolding signs
equals_stands rest = IsToken.sign refl refl refl

-- a sign with a space on each side
abbrev pub spaced : ℕ → List ℕ → Tree
spaced k sign =
    both (both (piece (gap (codes " "))) (piece (token (Sign k) sign))) (piece (gap (codes " ")))

pub spaced_stands : (k : ℕ) (sign rest : List ℕ) → Spaced k sign → Stands (spaced k sign) rest
spaced_stands k sign rest s = ((IsGap.blank refl, s rest), IsGap.blank refl)
