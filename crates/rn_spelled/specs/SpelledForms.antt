-- The law over what texts spell, which is the contract of a function that does nothing.
use Rattle.std.specs.Prelude.{ℕ, List}
use Rattle.rn_net.specs.declared.plain.Plain.{Plain}
use Rattle.rn_net.specs.Texts.{Spells}
use Rattle.rn_spelled.specs.WellFormed.{IsWellFormed}

-- What a text spells is well formed.
abbrev pub SpelledFormsAreWellFormed : Type 0
SpelledFormsAreWellFormed = (bytes : List ℕ) (plain : Plain) → Spells bytes plain →
    IsWellFormed plain
