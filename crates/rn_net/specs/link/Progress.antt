-- How a reader of net texts goes on, and what is next. This only connects the readers to the
-- grammar.
use Rattle.std.specs.Prelude.{◌≡◌, ℕ, ℤ, pos, ◌⊎◌, List, ◌∷◌, drop, Result}
use Rattle.rn_notation.specs.declared.sign.TheConstants as sign
use Rattle.rn_notation.specs.declared.token.Spot.{Spot}
use Rattle.rn_notation.specs.declared.token.Token.{Token}
use Rattle.rn_notation.specs.declared.token.TokenKind.{TokenKind}
use Rattle.rn_notation.specs.declared.token.TokenKind.TheVariants.{Number, Text}
use Rattle.rn_reading.specs.Phrases.{Phrases}
use Rattle.rn_reading.specs.declared.fault.ReadFault.{ReadFault}
use Rattle.rn_reading.specs.declared.fault.ReadFault.TheVariants as Fault
use Rattle.rn_reading.specs.link.Stages as Stages
use Rattle.rn_reading.specs.link.Stages.{Anything, Sort, IsNext}
use Rattle.rn_inscript.specs.Readings.{Wholes, IsStopped, IsDeep}
use Rattle.rn_net.specs.Levels.{Region, net_counting}

-- stages and readers from one region to another, where anything may follow a phrase
abbrev pub Stage : {A : Type 0} → Phrases A → List Token → Region → Sort A → List Token → Region →
    Type 0
Stage X start first Y left now = Stages.Stage net_counting Anything X start first Y left now

abbrev pub Fails : {A : Type 0} → Phrases A → List Token → Region → ℕ → ReadFault → Type 0
Fails X start first total e = Stages.Fails net_counting Anything X start first total e

abbrev pub Reads : {A : Type 0} → Phrases A → List Token → ℕ → Region → Region →
    Result (A × ℕ) ReadFault → Type 0
Reads X tokens at first last r = Stages.Reads net_counting Anything X tokens at first last r

-- why no whole phrase is read from an index on
abbrev pub Refuses : {A : Type 0} → Wholes A → List Token → ℕ → ReadFault → Type 0
Refuses Whole tokens at (Fault.Stopped k) = IsStopped Whole tokens at k
Refuses Whole tokens at (Fault.TooFar k) = IsDeep Whole tokens at k
Refuses Whole tokens at (Fault.NoMemory _) = Unit {0}

-- `}`, `]` or `;`
abbrev pub IsEnd : ℕ → Type 0
IsEnd k = (k ≡ sign.RIGHT_BRACE) ⊎ ((k ≡ sign.RIGHT_BRACKET) ⊎ (k ≡ sign.SEMICOLON))

-- a token of this kind is at an index, with this spot
abbrev pub HasNext : List Token → ℕ → TokenKind → Spot → Type 0
HasNext tokens at kind spot =
    (t : Token) × IsNext tokens at t × (t.kind ≡ kind) × (spot ≡ t.spot)

-- no number, or no text, is at an index
abbrev pub IsNoNumber : List Token → ℕ → Type 0
IsNoNumber tokens at =
    (t : Token) (others : List Token) (n : ℤ) → drop at tokens ≡ t ∷ others → t.kind ≡ Number n → ⊥

abbrev pub IsNoText : List Token → ℕ → Type 0
IsNoText tokens at = (t : Token) (others : List Token) (s : List ℕ) →
    drop at tokens ≡ t ∷ others → t.kind ≡ Text s → ⊥

-- no number among the tokens is negative, as among those of a text
abbrev pub HaveNaturals : List Token → Type 0
HaveNaturals tokens = (at : ℕ) (t : Token) (n : ℤ) → IsNext tokens at t → t.kind ≡ Number n →
    (m : ℕ) × (n ≡ pos m)
