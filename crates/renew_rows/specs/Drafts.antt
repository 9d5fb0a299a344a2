-- Rows of which some lines are read.
use Rattle.std.specs.Prelude.{ℕ, ◌≡◌, List, ◌++◌, Option, None, Some}
use Rattle.renew_rows.specs.declared.pieces.Piece.{Piece}
use Rattle.renew_rows.specs.declared.reading.Draft.{Draft}
use Rattle.renew_rows.specs.declared.reading.Part.{Part}
use Rattle.renew_rows.specs.declared.reading.Part.TheVariants.{In, Out, Err}
use Rattle.renew_rows.specs.Pieces.{IsWritten, piece_text}

-- the text whose pieces follow has these bytes more, and the others have none
abbrev pub Appends : Option Part → Draft → Draft → List ℕ → Type 0
Appends None old new text = ⊥
Appends (Some In) old new text = (new.call.input.items ≡ old.call.input.items ++ text)
    × (new.wanted.out.items ≡ old.wanted.out.items) × (new.wanted.err.items ≡ old.wanted.err.items)
Appends (Some Out) old new text = (new.call.input.items ≡ old.call.input.items)
    × (new.wanted.out.items ≡ old.wanted.out.items ++ text)
    × (new.wanted.err.items ≡ old.wanted.err.items)
Appends (Some Err) old new text = (new.call.input.items ≡ old.call.input.items)
    × (new.wanted.out.items ≡ old.wanted.out.items)
    × (new.wanted.err.items ≡ old.wanted.err.items ++ text)

-- the piece that a line is says what is appended
abbrev pub TakesPiece : Draft → Draft → List ℕ → Type 0
TakesPiece old new line = (piece : Piece) × IsWritten piece line
    × Appends old.part old new (piece_text piece)
