-- What stands next where an inscription is read, and equalities by themselves.
use Rattle.std.specs.Prelude.{◌≡◌, ℕ, List, ◌∷◌, drop}
use Rattle.rn_notation.specs.declared.token.Token.{Token}
use Rattle.rn_notation.specs.declared.token.TokenKind.{TokenKind}
use Rattle.rn_notation.specs.declared.token.TokenKind.TheVariants.{Name}
use Rattle.rn_reading.specs.declared.fault.ReadFault.{ReadFault}
use Rattle.rn_reading.specs.declared.fault.ReadFault.TheVariants as Fault
use Rattle.rn_inscript.specs.declared.exprs.PExpr.{PExpr}
use Rattle.rn_inscript.specs.declared.inscriptions.PName.{PName}
use Rattle.rn_inscript.specs.declared.inscriptions.PInscribed.{PInscribed}
use Rattle.rn_inscript.specs.declared.inscriptions.PInscribed.TheVariants as I
use Rattle.rn_inscript.specs.Expressions.{IsExpr}
use Rattle.rn_inscript.specs.Signs.{equals, new_word}
use Rattle.rn_reading.specs.Phrases.{Phrases}
use Rattle.rn_reading.specs.link.Stages.{IsNext}

-- no token is at an index, or one of another kind
abbrev pub IsNotNextKind : List Token → ℕ → TokenKind → Type 0
IsNotNextKind tokens at kind =
    (t : Token) (others : List Token) → drop at tokens ≡ t ∷ others → t.kind ≡ kind → ⊥

-- a name is at an index, with its spot
abbrev pub IsNextName : List Token → ℕ → PName → Type 0
IsNextName tokens at name =
    (t : Token) × (s : List ℕ) × IsNext tokens at t × (t.kind ≡ Name s)
    × (name ≡ record { text = s; spot = t.spot })

-- no name is at an index
abbrev pub IsNotName : List Token → ℕ → Type 0
IsNotName tokens at = (t : Token) (others : List Token) (s : List ℕ) →
    drop at tokens ≡ t ∷ others → t.kind ≡ Name s → ⊥

-- memory ran out, or no name is at an index
abbrev pub IsNoName : List Token → ℕ → ReadFault → Type 0
IsNoName tokens at (Fault.Stopped k) = IsNotName tokens at × (k ≡ at)
IsNoName tokens at (Fault.TooFar k) = ⊥
IsNoName tokens at (Fault.NoMemory _) = Unit {0}

-- the two sides of an equality
abbrev pub IsEquality : Phrases PInscribed
IsEquality ts e rest = (a : PExpr) × (b : PExpr) × (t : Token) × (us : List Token) ×
    IsExpr ts a (t ∷ us) × (t.kind ≡ equals) × IsExpr us b rest × (e ≡ I.Equality a b)

-- what follows a name and a colon is no creation
abbrev pub IsNoCreation : List Token → ℕ → Token → Type 0
IsNoCreation tokens at target =
    (x : List ℕ) → target.kind ≡ Name x → IsNotNextKind tokens at new_word
