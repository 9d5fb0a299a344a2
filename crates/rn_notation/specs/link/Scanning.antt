-- What stands first in a text: a blank or comment, a token, or a fault.
use Rattle.std.specs.Prelude.{◌≡◌, ℕ, ◌+◌, List, [], ◌∷◌, ◌++◌, length, encode_utf8}
use Rattle.std.specs.Prelude.{if◌then◌else◌, Option, None, Some}
use Rattle.std.specs.Prelude.{◌-◌, Bool, false, slice_get}
use Rattle.std.specs.List.{AllByRecursion, flat_map}
use Rattle.rn_value.specs.Characters.{is_letter}
use Rattle.rn_value.specs.Words.{index_of}
use Rattle.rn_notation.specs.Words.{signs}
use Rattle.rn_notation.specs.Bytes.{quote}
use Rattle.rn_notation.specs.Texts.{itself, IsPart, spelled, meaning, is_closed, IsNoEscape}
use Rattle.rn_notation.specs.Texts.{IsBroken}
use Rattle.rn_notation.specs.Tokens.{IsGap, IsToken}
use Rattle.rn_notation.specs.Faults.{IsFault}
use Rattle.rn_notation.specs.Spots.{is_line_end}
use Rattle.rn_notation.specs.declared.token.Spot.{Spot}
use Rattle.rn_notation.specs.declared.token.TokenKind.{TokenKind}
use Rattle.rn_notation.specs.declared.token.Cause.{Cause}
use Rattle.rn_notation.specs.declared.piece.Piece.{Piece}
use Rattle.rn_notation.specs.declared.texts.Inside.{Inside}

-- what may be found: a blank or comment, a token of some kind, or a fault
pub data Found : Type 0 where
  gap : Found
  token : TokenKind → Found
  fault : Cause → Found

-- what was found is spelled by these bytes before the rest; those of a fault go up to its spot
abbrev pub IsSpelledBy : Found → List ℕ → List ℕ → Type 0
IsSpelledBy gap prefix rest = IsGap prefix rest
IsSpelledBy (token kind) prefix rest = IsToken kind prefix rest
IsSpelledBy (fault cause) prefix rest = IsFault cause prefix rest

-- The text is its first n bytes and a rest. These bytes are what was found there, and where that is
-- a fault, they go up to its spot.
pub record Cuts (text : List ℕ) (n : ℕ) (found : Found) : Type 0 where
  pub prefix : List ℕ
  pub rest : List ℕ
  pub whole : text ≡ prefix ++ rest
  pub size : n ≡ length prefix
  pub stands : IsSpelledBy found prefix rest

-- what a piece of the code says was found
abbrev pub found_of : Piece → Found
found_of (Piece.Gap n) = gap
found_of (Piece.Token kind n) = token kind
found_of (Piece.Fault cause n) = fault cause

-- of how many bytes a piece of the code is
abbrev pub size_of : Piece → ℕ
size_of (Piece.Gap n) = n
size_of (Piece.Token kind n) = n
size_of (Piece.Fault cause n) = n

-- the piece is what stands first in the text
abbrev pub IsFirstPiece : List ℕ → Piece → Type 0
IsFirstPiece text piece = Cuts text (size_of piece) (found_of piece)

-- the text is the bytes of the piece that stands first, and those after it
pub record CutsInto (piece : Piece) (text prefix after : List ℕ) : Type 0 where
  pub whole : text ≡ prefix ++ after
  pub stands : IsSpelledBy (found_of piece) prefix after

-- the spot after one more byte
abbrev pub next_spot : Spot → ℕ → Spot
next_spot spot c =
    if is_line_end c then record { line = spot.line + 1; column = 1 }
    else record { line = spot.line; column = spot.column + 1 }

-- the spot after more bytes
abbrev pub spot_on : Spot → List ℕ → Spot
spot_on spot [] = spot
spot_on spot (c ∷ text) = spot_on (next_spot spot c) text

-- A text goes on with items as they are spelled, which stand for these bytes, and then with the
-- rest.
pub record GoesOn {X : Type 0} (Is : X → Type 0) (spelled meaning : X → List ℕ)
    (text bytes rest : List ℕ) : Type 0 where
  pub items : List X
  pub are : AllByRecursion Is items
  pub whole : text ≡ flat_map spelled items ++ rest
  pub means : bytes ≡ flat_map meaning items

-- parts of a text, what they stand for, and the bytes after them
abbrev pub HasParts : List ℕ → List ℕ → List ℕ → Type 0
HasParts text bytes rest = GoesOn IsPart spelled meaning text bytes rest

-- characters that stand for themselves in a text, spelled one after another, and the bytes after
-- them
abbrev pub IsRun : List ℕ → List ℕ → List ℕ → Type 0
IsRun text run rest = GoesOn (λ c. IsPart (itself c)) encode_utf8 encode_utf8 text run rest

-- whether a byte is there and is a letter
abbrev pub is_some_letter : Option ℕ → Bool
is_some_letter None = false
is_some_letter (Some c) = is_letter c

-- whether a text ends in a letter
abbrev pub ends_in_letter : List ℕ → Bool
ends_in_letter text = is_some_letter (slice_get text (length text - 1))

-- the sign that a byte and the first of others are
abbrev pub long_sign : ℕ → List ℕ → Option ℕ
long_sign a [] = None
long_sign a (b ∷ others) = index_of signs (a ∷ b ∷ [])

-- what a text goes on with
abbrev pub GoesOnWith : List ℕ → Inside → Type 0
GoesOnWith text (Inside.Part c rest) = HasParts text (encode_utf8 c) rest.now
GoesOnWith text Inside.Quote = (rest : List ℕ) × (text ≡ quote ∷ rest)
GoesOnWith text Inside.Open = is_closed text ≡ false
GoesOnWith text Inside.NoEscape = IsNoEscape text
GoesOnWith text Inside.Broken = IsBroken text

-- A fault at the rest of a text that began at the start of the source. It counts only where the
-- text is closed.
abbrev pub fault_in_text : List ℕ → Cause → List ℕ → Piece
fault_in_text source cause rest =
    if is_closed rest then Piece.Fault cause (length source - length rest)
    else Piece.Fault Cause.P7 0
