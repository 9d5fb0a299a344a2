-- A source over a reader of the standard library, and a sink over a writer. Of some
-- readers and writers the library knows the bytes.
use Rattle.std.specs.Prelude.{ℕ, ◌≤◌, List, length, take, Option, Result, MatchResult}
use Rattle.std.specs.Io.KnownBytes as known

-- A source: the reader, and how often it has failed.
pub record ReaderState (R : Type 0) : Type 0 where
  pub reader : R
  pub faults : ℕ

-- A sink: the writer, and how often it has failed.
pub record WriterState (W : Type 0) : Type 0 where
  pub writer : W
  pub faults : ℕ

-- The writer took the first n bytes of the piece, where it returned n, and after an error some
-- first bytes of it.
abbrev pub TakesPiece : {E : Type 0} → Option (List ℕ) → Option (List ℕ) → Result ℕ E → List ℕ → Type 0
TakesPiece before after result piece =
    MatchResult result (λ n. known.Appends before after (take n piece))
    (λ _. (n : ℕ) × (n ≤ length piece) × known.Appends before after (take n piece))
