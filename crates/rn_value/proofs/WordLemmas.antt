-- Letters and bytes of names are ASCII.
use Rattle.std.proofs.Common.{◌≡◌, ◌<◌, ℕ, zero, suc, List, [], ◌∷◌, true, refl, arith}
use Rattle.std.specs.Prelude.{IsUtf8, IsAscii}
use Rattle.std.specs.List.{list_all}
use Rattle.std.proofs.lemmas.Bool.Decides.{nat_tests}
use Rattle.std.proofs.lemmas.Str.{IsUtf8-from_ascii}
use Rattle.rn_value.specs.Characters.{is_letter, is_name_byte}
use Rattle.rn_value.specs.Words.{begins_with, is_identifier}
use Rattle.rn_items.proofs.Bools.{and_left, and_right}

-- a letter is a byte that may stand in a name
pub name_byte-letter : (c : ℕ) → is_letter c ≡ true → is_name_byte c ≡ true
name_byte-letter c h = rw h refl

-- a byte that may stand in a name is below 128
pub name_byte-low : (c : ℕ) → is_name_byte c ≡ true → c < 128
name_byte-low c h = grind (arith, nat_tests)

name_bytes-low : (word : List ℕ) → list_all is_name_byte word ≡ true → IsAscii word
name_bytes-low [] h i = omega arith
name_bytes-low (c ∷ word) h zero =
    name_byte-low c (and_left (is_name_byte c) (list_all is_name_byte word) h)
name_bytes-low (c ∷ word) h (suc i) =
    name_bytes-low word (and_right (is_name_byte c) (list_all is_name_byte word) h) i

-- an identifier is UTF-8
pub identifier-utf8 : (word : List ℕ) → is_identifier word ≡ true → IsUtf8 word
identifier-utf8 word h = IsUtf8-from_ascii word
    (name_bytes-low word (and_right (begins_with is_letter word) (list_all is_name_byte word) h))
