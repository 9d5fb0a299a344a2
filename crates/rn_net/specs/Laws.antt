-- Laws of net texts.
use Rattle.std.specs.Prelude.{◌≡◌, ℕ, List}
use Rattle.rn_notation.specs.declared.token.Token.{Token}
use Rattle.rn_net.specs.declared.plain.Plain.{Plain}
use Rattle.rn_net.specs.declared.refusal.Refusal.{Refusal}
use Rattle.rn_net.specs.Nets.{IsSystem}
use Rattle.rn_net.specs.Refusals.{IsRefused}
use Rattle.rn_net.specs.Texts.{IsNotation, Spells}

-- a list of tokens is one system at most
abbrev pub OneSystem : Type 0
OneSystem = (tokens : List Token) (p q : Plain) → IsSystem tokens p → IsSystem tokens q → p ≡ q

-- a text spells one system at most
abbrev pub OneSpelled : Type 0
OneSpelled = (bytes : List ℕ) (p q : Plain) → Spells bytes p → Spells bytes q → p ≡ q

-- a text that spells a system is refused for no reason
abbrev pub SpelledIsNotRefused : Type 0
SpelledIsNotRefused = (bytes : List ℕ) (plain : Plain) (refusal : Refusal) →
    Spells bytes plain → IsRefused bytes refusal → ⊥

-- a text that spells a system is in one of the two notations
abbrev pub SpelledInNotation : Type 0
SpelledInNotation = (bytes : List ℕ) (plain : Plain) → Spells bytes plain →
    IsNotation plain.notation
