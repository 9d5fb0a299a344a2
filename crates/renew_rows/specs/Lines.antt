-- The lines of a text, and those that begin rows.
use Rattle.std.specs.Prelude.{ℕ, Bool, true, false, List, [], ◌∷◌, ◌&&◌, nat_eq, nat_le, length}
use Rattle.std.specs.Prelude.{Option, None, Some, option_to_list, take, drop, codes, bytes_eq}
use Rattle.std.specs.Prelude.{if◌then◌else◌}
use Rattle.std.specs.List.{flat_map}

-- lines, of which the first has one byte more at its start
abbrev pub longer_by : ℕ → List (List ℕ) → List (List ℕ)
longer_by c [] = (c ∷ []) ∷ []
longer_by c (line ∷ lines) = (c ∷ line) ∷ lines

-- the lines of a text, without their line feeds; what stands after the last of these is a line
-- where it isn't empty
abbrev pub lines_of : List ℕ → List (List ℕ)
lines_of [] = []
lines_of (c ∷ text) = if nat_eq c 10 then [] ∷ lines_of text else longer_by c (lines_of text)

-- what stands after these bytes, where a line begins with them
abbrev pub after_bytes : List ℕ → List ℕ → Option (List ℕ)
after_bytes bytes line =
    if nat_le (length bytes) (length line) && bytes_eq (take (length bytes) line) bytes
    then Some (drop (length bytes) line) else None

-- the name of a row and whether it must differ, of what stands after the two first words
abbrev pub heading_by : Option (List ℕ) → Option (List ℕ) → Option (List ℕ × Bool)
heading_by (Some name) _ = Some (name, false)
heading_by None (Some name) = Some (name, true)
heading_by None None = None

-- the name of the row that a line begins, and whether it must differ
abbrev pub heading : List ℕ → Option (List ℕ × Bool)
heading line = heading_by (after_bytes (codes "row ") line) (after_bytes (codes "differs ") line)

-- those of all rows that begin in these lines
abbrev pub headings : List (List ℕ) → List (List ℕ × Bool)
headings lines = flat_map (λ line. option_to_list (heading line)) lines
