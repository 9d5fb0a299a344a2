-- Spots in a text.
use Rattle.std.specs.Prelude.{ℕ, ◌+◌, Bool, not, List, reverse, nat_eq, count_by}
use Rattle.std.specs.List.{prefix_len}
use Rattle.rn_notation.specs.Bytes.{line_feed}
use Rattle.rn_notation.specs.declared.token.Spot.{Spot}

-- whether a byte ends its line
abbrev pub is_line_end : ℕ → Bool
is_line_end c = nat_eq c line_feed

-- The spot after these bytes of a text. Lines and columns count from 1. A line feed ends its
-- line, and each byte is a column.
abbrev pub spot_after : List ℕ → Spot
spot_after before = record {
  line = count_by is_line_end before + 1;
  column = prefix_len (λ c. not (is_line_end c)) (reverse before) + 1;
}
