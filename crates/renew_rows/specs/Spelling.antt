-- What a text with escapes spells.
use Rattle.std.specs.Prelude.{ℕ, zero, suc, ◌+◌, ◌-◌, ◌*◌, List, [], ◌∷◌, ◌++◌, ◌&&◌, nat_eq, nat_le}
use Rattle.std.specs.Prelude.{Option, None, Some, if◌then◌else◌}

-- what a hexadecimal digit counts; letters are lower case
abbrev pub digit_value : ℕ → Option ℕ
digit_value c =
    if nat_le 48 c && nat_le c 57 then Some (c - 48)
    else if nat_le 97 c && nat_le c 102 then Some (c - 97 + 10)
    else None

-- the number of two digits
abbrev pub of_two : Option ℕ → Option ℕ → Option ℕ
of_two (Some high) (Some low) = Some (high * 16 + low)
of_two _ _ = None

-- the byte of the escape that a byte begins with those after it: a backslash and two digits
abbrev pub escaped : ℕ → List ℕ → Option ℕ
escaped c [] = None
escaped c (high ∷ []) = None
escaped c (high ∷ low ∷ text) =
    if nat_eq c 92 then of_two (digit_value high) (digit_value low) else None

-- a byte that begins no escape stands for itself, and the sign `@` for these bytes
abbrev pub own : List ℕ → ℕ → List ℕ
own sign c = if nat_eq c 64 then sign else c ∷ []

-- the byte of an escape, or else what the byte alone stands for
abbrev pub first : List ℕ → ℕ → Option ℕ → List ℕ
first sign c None = own sign c
first sign c (Some byte) = byte ∷ []

-- how many bytes after the first belong to it
abbrev pub belonging : Option ℕ → ℕ
belonging None = 0
belonging (Some byte) = 2

-- what a text spells, but for so many bytes at its start
abbrev pub spelled_after : List ℕ → ℕ → List ℕ → List ℕ
spelled_after sign passed [] = []
spelled_after sign (suc passed) (c ∷ text) = spelled_after sign passed text
spelled_after sign zero (c ∷ text) =
    first sign c (escaped c text) ++ spelled_after sign (belonging (escaped c text)) text

-- what a text spells
abbrev pub spelled : List ℕ → List ℕ → List ℕ
spelled sign text = spelled_after sign 0 text
