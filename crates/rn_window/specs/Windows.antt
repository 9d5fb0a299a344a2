-- What a window keeps of a text that is written.
use Rattle.std.specs.Prelude.{ℕ, ◌+◌, ◌-◌, List, ◌++◌, length, take, drop, min}

-- A window keeps as many bytes as it has room for. It passes over those that come first, as many as
-- it is still to skip, and counts all that come.
pub record Sight : Type 0 where
  pub room : ℕ
  pub skip : ℕ
  pub kept : List ℕ
  pub came : ℕ

-- the greatest count
abbrev pub top : ℕ
top = 18446744073709551615

-- a window once bytes came
unfoldable pub after : Sight → List ℕ → Sight
after w bytes = record {
  room = w.room;
  skip = w.skip - length bytes;
  kept = w.kept ++ take (w.room - length w.kept) (drop w.skip bytes);
  came = w.came + min (top - w.came) (length bytes);
}
