-- Laws of migrated texts.
use Rattle.std.specs.Prelude.{◌≡◌, ◌≤◌, ℕ, List, length}
use Rattle.rn_notation.specs.Limits.{longest_net_text}
use Rattle.rn_model.specs.declared.system.System.{System}
use Rattle.rn_net.specs.declared.plain.Plain.{Plain}
use Rattle.rn_net.specs.Texts.{Spells}
use Rattle.rn_check.specs.Checked.{Checked}
use Rattle.rn_migrate.specs.Migrated.{migrated_text, SameParts}

-- What is accepted, and the system that it means, depend on channels and nets alone: neither on
-- spots nor on the notation.
abbrev pub SamePartsAreChecked : Type 0
SamePartsAreChecked = (plain other : Plain) (system : System) → SameParts plain other →
    Checked plain system → Checked other system

-- The migrated text of an accepted net text, if it is no longer than a net text may be, is accepted
-- with the same system. It spells the same channels and nets but for spots, in notation 2.
abbrev pub MigratedTextsAreAccepted : Type 0
MigratedTextsAreAccepted = (bytes : List ℕ) (plain : Plain) (system : System) →
    Spells bytes plain → Checked plain system → length (migrated_text plain) ≤ longest_net_text →
    (migrated : Plain) × Spells (migrated_text plain) migrated × (migrated.notation ≡ 2)
    × SameParts migrated plain × Checked migrated system

-- And whatever that text is read as is in notation 2 and means no other system.
abbrev pub OneSystemIsRead : Type 0
OneSystemIsRead = (bytes : List ℕ) (plain migrated : Plain) (system other : System) →
    Spells bytes plain → Checked plain system → Spells (migrated_text plain) migrated →
    Checked migrated other → (other ≡ system) × (migrated.notation ≡ 2)
