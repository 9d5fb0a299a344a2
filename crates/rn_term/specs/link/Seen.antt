-- Which ids a walk remembers.
use Rattle.std.specs.Prelude.{ℕ, ◌≡◌, true, false, slice_index_or}
use Rattle.rn_term.specs.declared.seen.Seen.{Seen}

-- an id is remembered
abbrev pub IsSeen : Seen → ℕ → Type 0
IsSeen seen id = slice_index_or seen.flags.items id false ≡ true
