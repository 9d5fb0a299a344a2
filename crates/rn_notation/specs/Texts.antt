-- What stands in quotes and in comments.
use Rattle.std.specs.Prelude.{◌≡◌, ℕ, Bool, true, false, List, [], ◌∷◌, Option, None, Some}
use Rattle.std.specs.Prelude.{option_to_list, nat_eq, if◌then◌else◌, encode_utf8}
use Rattle.std.specs.Char.{IsScalar}
use Rattle.std.specs.List.{list_any, flat_map, AllByRecursion}
use Rattle.std.specs.Str.{StartsWithNoChar}
use Rattle.rn_notation.specs.Bytes.{quote, backslash, line_feed, tab}

-- A part of a text: a character that stands for itself, or a backslash and the byte after it.
pub data Part : Type 0 where
  itself : ℕ → Part
  escape : ℕ → Part

-- `\"` stands for the quote, `\\` for the backslash, `\n` for the line feed and `\t` for the tab
abbrev pub escaped_byte : ℕ → Option ℕ
escaped_byte c =
    if nat_eq c quote then Some quote
    else if nat_eq c backslash then Some backslash
    else if nat_eq c 110 then Some line_feed
    else if nat_eq c 116 then Some tab
    else None

-- the quote, the backslash and the line feed, which don't stand for themselves
abbrev pub is_special : ℕ → Bool
is_special c = list_any (nat_eq c) (quote ∷ backslash ∷ line_feed ∷ [])

-- a character that may stand for itself, or an escape
abbrev pub IsPart : Part → Type 0
IsPart (itself c) = IsScalar c × (is_special c ≡ false)
IsPart (escape c) = (byte : ℕ) × (escaped_byte c ≡ Some byte)

-- how a part is written
abbrev pub spelled : Part → List ℕ
spelled (itself c) = encode_utf8 c
spelled (escape c) = backslash ∷ c ∷ []

-- what a part stands for
abbrev pub meaning : Part → List ℕ
meaning (itself c) = encode_utf8 c
meaning (escape c) = option_to_list (escaped_byte c)

-- the parts of a text
abbrev pub AreParts : List Part → Type 0
AreParts = AllByRecursion IsPart

-- how parts are written, one after another
abbrev pub written : List Part → List ℕ
written parts = flat_map spelled parts

-- what parts stand for, one after another
abbrev pub meant : List Part → List ℕ
meant parts = flat_map meaning parts

-- Whether a quote comes before a line feed and before the end, where a backslash and the byte
-- after it are a pair, of which neither counts.
abbrev pub is_closed : List ℕ → Bool
is_closed [] = false
is_closed (c ∷ []) = nat_eq c quote
is_closed (c ∷ d ∷ text) =
    if nat_eq c quote then true
    else if nat_eq c line_feed then false
    else if nat_eq c backslash then is_closed text
    else is_closed (d ∷ text)

-- a character of a comment, which is any but the line feed
abbrev pub IsInComment : ℕ → Type 0
IsInComment c = IsScalar c × (nat_eq c line_feed ≡ false)

-- bytes at whose start no UTF-8 character stands
abbrev pub IsBroken : List ℕ → Type 0
IsBroken [] = ⊥
IsBroken (c ∷ text) = StartsWithNoChar (c ∷ text)

-- a backslash and a byte that are no escape
abbrev pub IsNoEscape : List ℕ → Type 0
IsNoEscape (a ∷ c ∷ text) = (a ≡ backslash) × (escaped_byte c ≡ None)
IsNoEscape _ = ⊥
