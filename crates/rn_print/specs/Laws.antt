-- Laws of canonical texts.
use Rattle.std.specs.Prelude.{◌≡◌, ◌≤◌, length}
use Rattle.rn_notation.specs.Limits.{longest_net_text}
use Rattle.rn_net.specs.declared.plain.Plain.{Plain}
use Rattle.rn_net.specs.declared.refusal.Refusal.{Refusal}
use Rattle.rn_net.specs.Refusals.{IsRefused}
use Rattle.rn_net.specs.Texts.{Spells}
use Rattle.rn_print.specs.Nets.{canonical_text, in_notation}
use Rattle.rn_print.specs.SameButSpots.{SameButSpots}
use Rattle.rn_print.specs.ReadingBack.{IsSpelled, IsReadBack, SpellsButSpots}

-- Where some text spells a plain form, but for its spots, its canonical text does so, unless it is
-- longer than a net text may be.
abbrev pub TextsAreReadBack : Type 0
TextsAreReadBack = (plain : Plain) → IsReadBack (canonical_text plain) plain

-- plain forms that are the same but for spots have one canonical text
abbrev pub SpotsDoNotCount : Type 0
SpotsDoNotCount = (p q : Plain) → SameButSpots p q → canonical_text p ≡ canonical_text q

-- canonical texts are fixed points: what is read from one has that very text again
abbrev pub TextsAreFixed : Type 0
TextsAreFixed = (p q : Plain) → IsSpelled p → Spells (canonical_text p) q →
    canonical_text q ≡ canonical_text p

-- what has one canonical text is the same but for spots
abbrev pub TextsTellApart : Type 0
TextsTellApart = (p q : Plain) → IsSpelled p → IsSpelled q → canonical_text p ≡ canonical_text q →
    length (canonical_text p) ≤ longest_net_text → SameButSpots p q

-- what the canonical text of what some text spells is read as is the same but for spots
abbrev pub WhatIsReadIsSame : Type 0
WhatIsReadIsSame = (plain q : Plain) → IsSpelled plain → Spells (canonical_text plain) q →
    SameButSpots q plain

-- the canonical text of what some text spells, if it is no longer than a net text may be, is refused
-- for no reason
abbrev pub TextsAreNotRefused : Type 0
TextsAreNotRefused = (plain : Plain) (refusal : Refusal) → IsSpelled plain →
    length (canonical_text plain) ≤ longest_net_text →
    IsRefused (canonical_text plain) refusal → ⊥

-- Where some text spells a plain form, but for its spots, the canonical text of the same channels
-- and nets in notation 2, if it is no longer than a net text may be, spells these in that notation,
-- but for their spots.
abbrev pub MigratedTextsAreRead : Type 0
MigratedTextsAreRead = (plain : Plain) → IsSpelled plain →
    length (canonical_text (in_notation 2 plain)) ≤ longest_net_text →
    SpellsButSpots (canonical_text (in_notation 2 plain)) (in_notation 2 plain)
