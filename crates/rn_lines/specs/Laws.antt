-- What the texts of values in records have to do with those that are written, and how lines stand.
use Rattle.std.specs.Prelude.{◌≡◌, ◌≢◌, ◌↔◌, ◌^◌, ℕ, zero, suc, ℤ, pos, negsuc, List, Bool, false, nat_lt, Some, All, IsTrue}
use Rattle.std.specs.List.{list_all, AllByRecursion}
use Rattle.std.specs.Str.{is_utf8}
use Rattle.rn_value.specs.Names.{name_of, AreNamed}
use Rattle.rn_value.specs.Text.{value_text}
use Rattle.rn_value.specs.Words.{IsName}
use Rattle.rn_value.specs.declared.value.InstRef.TheVariants.{Old, New}
use Rattle.rn_value.specs.declared.value.Value.{Value, fold-Value}
use Rattle.rn_value.specs.declared.value.Value.TheOpen as V
use Rattle.rn_lines.specs.LineReading.{line_at}
use Rattle.rn_lines.specs.LineText.{LineSaid, IsLine}
use Rattle.rn_lines.specs.ValueText.{Said, IsValue}

-- An instance is called by the name of its net: among these names, its own is this one.
abbrev pub IsCalled : List (List ℕ) → Said → Type 0
IsCalled names m = name_of names m.number ≡ Some m.name

-- Each of these is.
abbrev pub AreCalled : List (List ℕ) → List Said → Type 0
AreCalled names = AllByRecursion (IsCalled names)

-- whether a whole number has 64 bits, one of them for its sign
abbrev pub has_sixty_four_bits : ℤ → Bool
has_sixty_four_bits (pos n) = nat_lt n (2 ^ 63)
has_sixty_four_bits (negsuc n) = nat_lt n (2 ^ 63)

-- Whole numbers have 64 bits, texts are UTF-8, instances exist and have numbers of 32 bits, and at
-- most this many brackets are open at once. (This is one layer.)
abbrev pub fits_step : V.Value-F (ℕ → Bool) → ℕ → Bool
fits_step (V.Int n) depth = has_sixty_four_bits n
fits_step (V.Text s) depth = is_utf8 s
fits_step (V.Tuple items) zero = false
fits_step (V.Tuple items) (suc depth) = list_all (λ fits. fits depth) items
fits_step (V.List items) zero = false
fits_step (V.List items) (suc depth) = list_all (λ fits. fits depth) items
fits_step (V.Inst (Old number)) depth = nat_lt number (2 ^ 32)
fits_step (V.Inst (New path index)) depth = false

-- whether a value can stand in a record, with at most this many brackets open at once
abbrev pub fits_within : Value → ℕ → Bool
fits_within = fold-Value (ℕ → Bool) fits_step

-- A text whose instances are called by the names of their nets is the one that is written.
abbrev pub ReadTextsAreWritten : Type 0
ReadTextsAreWritten = (names : List (List ℕ)) (depth : ℕ) (v : Value) (named : List Said)
    (text : List ℕ) → IsValue depth v named text → AreCalled names named →
    AreNamed names v × (text ≡ value_text v names)

-- The text that is written of a value can be read, where the value fits.
abbrev pub WrittenTextsAreRead : Type 0
WrittenTextsAreRead = (names : List (List ℕ)) (depth : ℕ) (v : Value) →
    AllByRecursion IsName names → AreNamed names v → IsTrue (fits_within v depth) →
    (named : List Said) × AreCalled names named × IsValue depth v named (value_text v names)

-- No line holds a line feed, so the lines of bytes are those between their line feeds.
abbrev pub LinesHoldNoLineFeed : Type 0
LinesHoldNoLineFeed = (x : LineSaid) (bytes : List ℕ) → IsLine x bytes → All (λ c. c ≢ 10) bytes

-- What is read of a line is what it says by the grammar of lines, and nothing exactly where the bytes
-- are no line. So a definition that reads lines is one over the grammar.
abbrev pub LinesAreReadByTheirGrammar : Type 0
LinesAreReadByTheirGrammar = (x : LineSaid) (bytes : List ℕ) →
    line_at bytes ≡ Some x ↔ IsLine x bytes
