-- Texts and the systems that they spell.
use Rattle.std.specs.Prelude.{ℕ, ◌≡◌, ◌≤◌, ◌⊎◌, List, length}
use Rattle.rn_notation.specs.Limits.{longest_net_text}
use Rattle.rn_notation.specs.Reading.{Tokens}
use Rattle.rn_notation.specs.declared.token.Token.{Token}
use Rattle.rn_net.specs.declared.plain.Plain.{Plain}
use Rattle.rn_net.specs.Levels.{IsShallow}
use Rattle.rn_net.specs.Levels.Region.{between}
use Rattle.rn_net.specs.Nets.{IsSystem}

-- there are two notations
abbrev pub IsNotation : ℕ → Type 0
IsNotation notation = (notation ≡ 1) ⊎ (notation ≡ 2)

-- The bytes spell this system: they are no longer than a net text may be, and they are tokens,
-- without a fault, that are the system. None of the tokens opens level 65 or is the 257th operator
-- of its inscription.
pub record Spells (bytes : List ℕ) (plain : Plain) : Type 0 where
  pub tokens : List Token
  pub fits : length bytes ≤ longest_net_text
  pub read : Tokens bytes tokens
  pub system : IsSystem tokens plain
  pub within : IsShallow between tokens
