-- Texts that spell a plain form, but for its spots.
use Rattle.std.specs.Prelude.{ℕ, ◌≤◌, List, length}
use Rattle.rn_notation.specs.Limits.{longest_net_text}
use Rattle.rn_net.specs.declared.plain.Plain.{Plain}
use Rattle.rn_net.specs.Texts.{Spells}
use Rattle.rn_print.specs.SameButSpots.{SameButSpots}

-- the text spells the plain form, but for its spots
abbrev pub SpellsButSpots : List ℕ → Plain → Type 0
SpellsButSpots bytes plain = (p : Plain) × Spells bytes p × SameButSpots p plain

-- some text does
abbrev pub IsSpelled : Plain → Type 0
IsSpelled plain = (bytes : List ℕ) × SpellsButSpots bytes plain

-- where some text does, these bytes do, unless they are more than a net text may be
abbrev pub IsReadBack : List ℕ → Plain → Type 0
IsReadBack bytes plain =
    IsSpelled plain → length bytes ≤ longest_net_text → SpellsButSpots bytes plain
