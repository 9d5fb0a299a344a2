-- The two parts of the input of `replay`: a net text, and after a line `---` a record.
use Rattle.std.specs.Prelude.{ℕ, ◌≢◌, Bool, List, [], ◌++◌, length, take, drop, min, codes}
use Rattle.std.specs.Prelude.{suc, nat_eq, not, bytes_eq, ◌||◌, IsTrue}
use Rattle.std.specs.List.{prefix_len}

-- how many bytes the first line has, its line feed counted
abbrev pub line_length : List ℕ → ℕ
line_length bytes = min (suc (prefix_len (λ c. not (nat_eq c 10)) bytes)) (length bytes)

-- the first line, with its line feed, and what stands after it
abbrev pub first_line : List ℕ → List ℕ
first_line bytes = take (line_length bytes) bytes

abbrev pub after_line : List ℕ → List ℕ
after_line bytes = drop (line_length bytes) bytes

-- whether a line is the one that parts; the last line may have no line feed
abbrev pub is_parting : List ℕ → Bool
is_parting line = bytes_eq line (codes "---\n") || bytes_eq line (codes "---")

-- The bytes are these two parts: some lines of which none is the parting one, then the parting line,
-- and then the record. Where there is no parting line, all is net text.
pub data HasParts : List ℕ → List ℕ → List ℕ → Type 0 where
  whole : HasParts [] [] []
  parted : {bytes : List ℕ} → IsTrue (is_parting (first_line bytes)) →
      HasParts bytes [] (after_line bytes)
  further : {bytes net rest : List ℕ} → bytes ≢ [] → ¬ IsTrue (is_parting (first_line bytes)) →
      HasParts (after_line bytes) net rest → HasParts bytes (first_line bytes ++ net) rest
