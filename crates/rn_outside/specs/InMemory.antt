-- A source and a sink in memory. Their calls are numbered from 1, and those of some numbers fail.
use Rattle.std.specs.Prelude.{ℕ, ◌≤◌, List, [], ◌∷◌}
use Rattle.rn_outside.specs.Faults.{risen}

-- A source: the bytes left, how many calls were made (at most 2^64 - 1 are counted), the numbers of
-- those that fail, and how many have failed.
pub record SourceState : Type 0 where
  pub left : List ℕ
  pub calls : ℕ
  pub fails : List ℕ
  pub faults : ℕ

-- A sink: the bytes held, how many it can hold, how many a call takes at most, and how many calls were
-- for no bytes. The rest is as in a source.
pub record SinkState : Type 0 where
  pub held : List ℕ
  pub capacity : ℕ
  pub most : ℕ
  pub calls : ℕ
  pub fails : List ℕ
  pub faults : ℕ
  pub empty_writes : ℕ

-- how many calls were for no bytes, after one more for this piece
abbrev pub empty_after : ℕ → List ℕ → ℕ
empty_after count [] = risen count
empty_after count (_ ∷ _) = count

-- A sink holds no more than its capacity, for which it has the memory, and a call may take some
-- bytes.
pub record HasRoom (held capacity memory most : ℕ) : Type 0 where
  pub within : held ≤ capacity
  pub taken : capacity ≤ memory
  pub some : 1 ≤ most
