-- What is said of decisions and of the solutions that begin with them.
use Rattle.std.specs.Prelude.{ℕ, ◌≡◌, ◌<◌, List, [], ◌∷◌, ◌++◌, Option, Some, None}
use Rattle.rn_choices.specs.declared.next.Next.{Next}
use Rattle.rn_choices.specs.declared.next.Next.TheVariants.{Done, Stuck, Forced, Choose}

-- In each definition, `leads ds s` says that s is a solution that begins with the decisions ds, and
-- `offers ds site a` is what the alternative a of a site means after ds. `allows ds site a` says
-- that
-- it may be tried there.

-- no solution begins with the decisions
abbrev pub NoneLeads : {D S : Type 0} → (List D → S → Type 0) → List D → Type 0
NoneLeads {D} {S} leads ds = (s : S) → leads ds s → ⊥

-- what is said of the decisions and of the solutions that begin with the decisions, by how it goes
-- on
abbrev pub Says : {D T S : Type 0} → (List D → S → Type 0) → (List D → T → ℕ → D) → (List D → T →
    ℕ → Type 0) → Type 0 → List D → Next T → Type 0
Says {D} {T} {S} leads offers allows ends ds Done = ends
Says {D} {T} {S} leads offers allows ends ds Stuck = NoneLeads leads ds
Says {D} {T} {S} leads offers allows ends ds (Forced site) =
    allows ds site 0 × ((s : S) → leads ds s → leads (ds ++ offers ds site 0 ∷ []) s)
Says {D} {T} {S} leads offers allows ends ds (Choose site of first) =
    ((a : ℕ) → a < of → allows ds site a)
    × ((s : S) → leads ds s → (a : ℕ) × (a < of) × leads (ds ++ offers ds site a ∷ []) s)

-- the value is the only one of which P holds; None where there is none
abbrev pub IsOnly : {S : Type 0} → (S → Type 0) → Option S → Type 0
IsOnly {S} P None = (s : S) → P s → ⊥
IsOnly {S} P (Some s) = P s × ((t : S) → P t → t ≡ s)
