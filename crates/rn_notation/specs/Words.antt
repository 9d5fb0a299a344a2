-- Blanks, digits, and signs.
use Rattle.std.specs.Prelude.{ℕ, Bool, true, false, not, ◌&&◌, ◌||◌, List, []}
use Rattle.std.specs.Prelude.{◌∷◌, length, nat_eq, nat_le, codes}
use Rattle.std.specs.List.{list_any, list_all}
use Rattle.rn_notation.specs.Bytes.{slash}
use Rattle.rn_value.specs.Characters.{is_digit, number_after}
use Rattle.rn_value.specs.Words.{begins_with}

-- space, tab, carriage return and line feed
abbrev pub is_blank : ℕ → Bool
is_blank c = list_any (nat_eq c) (32 ∷ 9 ∷ 13 ∷ 10 ∷ [])

-- one or more digits
abbrev pub are_digits : List ℕ → Bool
are_digits ds = begins_with is_digit ds && list_all is_digit ds

-- the number that digits spell
abbrev pub number_of : List ℕ → ℕ
number_of ds = number_after 0 ds

-- the greatest number that can be written
abbrev pub greatest_number : ℕ
greatest_number = 9223372036854775807

-- whether the first of two texts is a prefix of the second
abbrev pub is_prefix_of : List ℕ → List ℕ → Bool
is_prefix_of [] text = true
is_prefix_of (c ∷ prefix) [] = false
is_prefix_of (c ∷ prefix) (d ∷ text) = nat_eq c d && is_prefix_of prefix text

-- the signs, in the order of their numbers
unfoldable pub signs : List (List ℕ)
signs =
    codes "{" ∷ codes "}" ∷ codes "[" ∷ codes "]" ∷ codes "(" ∷ codes ")"
    ∷ codes "," ∷ codes ";" ∷ codes ":" ∷ codes "=" ∷ codes "==" ∷ codes "!="
    ∷ codes "<" ∷ codes "<=" ∷ codes ">" ∷ codes ">="
    ∷ codes "+" ∷ codes "-" ∷ codes "*" ∷ codes "/" ∷ codes "%"
    ∷ codes "&&" ∷ codes "||" ∷ codes "!" ∷ []

-- whether a sign is a prefix of a text
abbrev pub begins_with_sign : List ℕ → Bool
begins_with_sign text = list_any (λ sign. is_prefix_of sign text) signs

-- whether no sign that is a prefix of a text is longer than this
abbrev pub is_longest_sign : List ℕ → List ℕ → Bool
is_longest_sign sign text =
    list_all (λ other. not (is_prefix_of other text) || nat_le (length other) (length sign)) signs

-- `//`
abbrev pub opens_comment : List ℕ → Bool
opens_comment text = is_prefix_of (slash ∷ slash ∷ []) text
