-- Bindings that grow, and what a decision that is tried comes to.
use Rattle.std.specs.Prelude.{ℕ, ◌≡◌, ◌≤◌, List, [], ◌∷◌, ◌++◌, Bool, true, false}
use Rattle.std.specs.Prelude.{length, take, Contains, All}
use Rattle.rn_model.specs.declared.system.System.{System}
use Rattle.rn_growing.specs.declared.decision.Decision.{Decision}
use Rattle.rn_growing.specs.Equations.{IsSolvable}
use Rattle.rn_growing.specs.Turns.{SameThing}

-- A binding that grows is seen as its system and what was decided of it.
pub record Grown : Type 0 where
  pub system : System
  pub decisions : List Decision

-- with one more decision
abbrev pub with_decision : Grown → Decision → Grown
with_decision g d = record { system = g.system; decisions = g.decisions ++ d ∷ [] }

-- with the first decisions alone
abbrev pub first_decisions : ℕ → Grown → Grown
first_decisions n g = record { system = g.system; decisions = take n g.decisions }

-- nothing was decided of this thing
abbrev pub IsNew : List Decision → Decision → Type 0
IsNew decisions d = (e : Decision) → Contains decisions e → ¬ SameThing e d

-- how many creations of a node the names of new instances can number
abbrev pub most_numbered : ℕ
most_numbered = 256

-- no transition has more creations than can be numbered
abbrev pub HasFewCreations : System → Type 0
HasFewCreations system =
    All (λ net. All (λ t. length t.creations ≤ most_numbered) net.transitions) system.nets

-- The answer to a decision that is tried: it is taken where some assignment satisfies it with
-- those before, and else all is as before.
abbrev pub Tries : Grown → Decision → Grown → Bool → Type 0
Tries old d new true = (new ≡ with_decision old d) × IsSolvable old.system
    (old.decisions ++ d ∷ [])
Tries old d new false = (new ≡ old) × ¬ IsSolvable old.system (old.decisions ++ d ∷ [])
