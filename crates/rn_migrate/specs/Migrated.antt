-- The migrated text of a system.
use Rattle.std.specs.Prelude.{ℕ, List}
use Rattle.rn_net.specs.declared.plain.Plain.{Plain}
use Rattle.rn_print.specs.Nets.{canonical_text, in_notation}
use Rattle.rn_print.specs.SameButSpots.{SameButSpots}

-- the canonical text, in notation 2, of the same channels and nets
abbrev pub migrated_text : Plain → List ℕ
migrated_text plain = canonical_text (in_notation 2 plain)

-- the two plain forms have the same channels and nets but for their spots, in whichever notations
abbrev pub SameParts : Plain → Plain → Type 0
SameParts plain other = SameButSpots (in_notation 2 plain) (in_notation 2 other)
