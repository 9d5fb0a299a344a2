-- A list whose elements are numbered from 1.
use Rattle.std.specs.Prelude.{ℕ, ◌+◌, ◌<◌, slice_index_or, List, length}

-- P holds of each number and the element that has it
abbrev pub EachAt : {A : Type 0} → (ℕ → A → Type 0) → List A → Type 0
EachAt {A} P xs = (k : ℕ) (x : A) → k < length xs → P (k + 1) (slice_index_or xs k x)
