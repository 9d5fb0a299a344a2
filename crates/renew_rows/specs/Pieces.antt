-- What the lines say that make up a text.
use Rattle.std.specs.Prelude.{ℕ, zero, suc, ◌≡◌, ◌+◌, ◌-◌, List, [], ◌∷◌, ◌++◌}
use Rattle.rn_value.specs.Text.{numeral}
use Rattle.renew_rows.specs.declared.pieces.Piece.{Piece}
use Rattle.renew_rows.specs.declared.pieces.Piece.TheVariants.{Line, Text, Repeated, Numbered}
use Rattle.renew_rows.specs.Numbers.{SpellsNumber}
use Rattle.renew_rows.specs.Spelling.{spelled}

-- the sign `@`, as it stands for itself
abbrev pub at_sign : List ℕ
at_sign = 64 ∷ []

-- a text and a line feed, with this for each sign `@`
abbrev pub line_text : List ℕ → List ℕ → List ℕ
line_text sign text = spelled sign text ++ 10 ∷ []

-- bytes so many times
abbrev pub bytes_times : ℕ → List ℕ → List ℕ
bytes_times zero bytes = []
bytes_times (suc n) bytes = bytes_times n bytes ++ bytes

-- so many lines, one for each number from this one on
abbrev pub numbered : ℕ → List ℕ → ℕ → List ℕ
numbered from text zero = []
numbered from text (suc n) = numbered from text n ++ line_text (numeral (from + n)) text

-- what a piece says
abbrev pub piece_text : Piece → List ℕ
piece_text (Line text) = line_text at_sign text.now
piece_text (Text text) = spelled at_sign text.now
piece_text (Repeated n text) = bytes_times n (spelled at_sign text.now)
piece_text (Numbered from count text) = numbered from text.now count

-- how a piece is written: `|` or `+` and its text, `*`, a number and its text, or `@`, the first
-- and the last number and its text
abbrev pub IsWritten : Piece → List ℕ → Type 0
IsWritten (Line text) line = line ≡ 124 ∷ text.now
IsWritten (Text text) line = line ≡ 43 ∷ text.now
IsWritten (Repeated n text) line =
    (digits : List ℕ) × SpellsNumber digits n × (line ≡ 42 ∷ (digits ++ 32 ∷ text.now))
IsWritten (Numbered from count text) line =
    (first : List ℕ) × (last : List ℕ) × (end : ℕ) × SpellsNumber first from
    × SpellsNumber last end × (count ≡ end + 1 - from)
    × (line ≡ 64 ∷ (first ++ 32 ∷ (last ++ 32 ∷ text.now)))
