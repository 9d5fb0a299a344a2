-- A text and its tokens.
use Rattle.std.specs.Prelude.{◌≡◌, ◌↔◌, ℕ, ◌+◌, ◌-◌, ◌<◌, ◌≤◌, List, [], ◌∷◌, ◌++◌, length, take}
use Rattle.std.specs.Prelude.{drop, Option, Some, None}
use Rattle.std.specs.List.{flat_map}
use Rattle.rn_notation.specs.Spots.{spot_after}
use Rattle.rn_notation.specs.Tokens.{IsGap, IsToken}
use Rattle.rn_notation.specs.Faults.{IsFault}
use Rattle.rn_notation.specs.declared.token.Spot.{Spot}
use Rattle.rn_notation.specs.declared.token.TokenKind.{TokenKind}
use Rattle.rn_notation.specs.declared.token.Token.{Token}
use Rattle.rn_notation.specs.declared.token.Cause.{Cause}
use Rattle.rn_notation.specs.declared.token.LexFault.{LexFault}

-- Bytes of a text: a blank or a comment, or a token of some kind.
pub data Piece : Type 0 where
  gap : List ℕ → Piece
  token : TokenKind → List ℕ → Piece

-- the bytes of a piece
abbrev pub bytes_of : Piece → List ℕ
bytes_of (gap prefix) = prefix
bytes_of (token kind prefix) = prefix

-- the piece is what stands before the rest
abbrev pub StandsBefore : Piece → List ℕ → Type 0
StandsBefore (gap prefix) rest = IsGap prefix rest
StandsBefore (token kind prefix) rest = IsToken kind prefix rest

-- The text is these pieces one after another, and then the rest.
abbrev pub ArePieces : List ℕ → List Piece → List ℕ → Type 0
ArePieces text [] rest = text ≡ rest
ArePieces text (piece ∷ pieces) rest =
    (after : List ℕ) × (text ≡ bytes_of piece ++ after) × StandsBefore piece after
    × ArePieces after pieces rest

-- the token of this kind that stands after some bytes of the text
abbrev pub token_after : List ℕ → TokenKind → List ℕ → Token
token_after before kind prefix = record {
  kind = kind;
  start = length before;
  end = length before + length prefix;
  spot = spot_after before;
}

-- the tokens among pieces that stand after some bytes of the text
abbrev pub tokens_after : List ℕ → List Piece → List Token
tokens_after before [] = []
tokens_after before (gap prefix ∷ pieces) = tokens_after (before ++ prefix) pieces
tokens_after before (token kind prefix ∷ pieces) =
    token_after before kind prefix ∷ tokens_after (before ++ prefix) pieces

-- A text begins with these tokens, up to the rest.
pub record BeginsWith (text : List ℕ) (tokens : List Token) (prefix rest : List ℕ) : Type 0 where
  pub pieces : List Piece
  pub stand : ArePieces text pieces rest
  pub cover : prefix ≡ flat_map bytes_of pieces
  pub among : tokens ≡ tokens_after [] pieces

-- The text is these tokens, with any blanks and comments before, between and after them.
abbrev pub Tokens : List ℕ → List Token → Type 0
Tokens text tokens = BeginsWith text tokens text []

-- a fault with its spot
abbrev pub fault_at : Cause → Spot → LexFault
fault_at Cause.P1 spot = LexFault.P1 spot
fault_at Cause.P3 spot = LexFault.P3 spot
fault_at Cause.P4 spot = LexFault.P4 spot
fault_at Cause.P7 spot = LexFault.P7 spot

-- The text begins with these tokens, and then, before another token is whole, comes this fault. It
-- is the first: up to its spot all is as it has to be.
pub record FirstFault (text : List ℕ) (tokens : List Token) (fault : LexFault) : Type 0 where
  pub before : List ℕ
  pub inside : List ℕ
  pub rest : List ℕ
  pub cause : Cause
  pub begins : BeginsWith text tokens before (inside ++ rest)
  pub fails : IsFault cause inside rest
  pub reported : fault ≡ fault_at cause (spot_after (before ++ inside))

-- the text is tokens
abbrev pub IsTokens : List ℕ → Type 0
IsTokens text = (tokens : List Token) × Tokens text tokens

-- this is the first fault of the text
abbrev pub HasFault : List ℕ → LexFault → Type 0
HasFault text fault = (tokens : List Token) × FirstFault text tokens fault

-- no other tokens are the text
abbrev pub NoOthers : List ℕ → List Token → Type 0
NoOthers text tokens = (others : List Token) → Tokens text others → tokens ≡ others

-- no other tokens stand before a first fault of the text
abbrev pub NoOthersBefore : List ℕ → List Token → Type 0
NoOthersBefore text tokens =
    (others : List Token) (fault : LexFault) → FirstFault text others fault → tokens ≡ others

-- what is reported is the first fault of the text, and each such fault is reported
abbrev pub ReportsFault : List ℕ → Option LexFault → Type 0
ReportsFault text reported = (fault : LexFault) → (reported ≡ Some fault) ↔ HasFault text fault

-- the slice of the source that is a token's text
abbrev pub slice_of : List ℕ → Token → List ℕ
slice_of text found = take (found.end - found.start) (drop found.start text)

-- a token's kind and its spot are those of its slice
pub record IsSlice (text : List ℕ) (found : Token) : Type 0 where
  pub stands : IsToken found.kind (slice_of text found) (drop found.end text)
  pub at_spot : found.spot ≡ spot_after (take found.start text)

-- The tokens are slices between these offsets, one after the other.
abbrev pub Ascend : ℕ → List Token → ℕ → Type 0
Ascend low [] high = low ≤ high
Ascend low (found ∷ others) high =
    (low ≤ found.start) × (found.start < found.end) × Ascend found.end others high

-- these are the tokens of the whole text, or those before its first fault
abbrev pub IsReadingOf : List ℕ → List Token → Option LexFault → Type 0
IsReadingOf text tokens None = Tokens text tokens
IsReadingOf text tokens (Some fault) = FirstFault text tokens fault
