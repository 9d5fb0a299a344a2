-- The lines of a record.
use Rattle.std.specs.Prelude.{ℕ, List, [], ◌∷◌, ◌++◌, nat_eq, Option, None, if◌then◌else◌}
use Rattle.rn_lines.specs.LineText.{LineSaid}
use Rattle.rn_lines.specs.LineReading.{line_at}

-- Bytes that no line feed ends are a line that isn't of the grammar, where there are any.
abbrev pub unended : List ℕ → List (Option LineSaid)
unended [] = []
unended (c ∷ bytes) = None ∷ []

-- the lines of bytes, with these bytes before them
abbrev pub lines_from : List ℕ → List ℕ → List (Option LineSaid)
lines_from before [] = unended before
lines_from before (c ∷ bytes) =
    if nat_eq c 10 then line_at before ∷ lines_from [] bytes
    else lines_from (before ++ c ∷ []) bytes

-- The lines of bytes: what each says, and nothing of one that isn't of the grammar. Each is ended
-- by a line feed.
abbrev pub lines_in : List ℕ → List (Option LineSaid)
lines_in = lines_from []
