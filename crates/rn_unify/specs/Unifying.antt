-- What a store says after two ids were made one.
use Rattle.std.specs.Prelude.{ℕ, ◌≡◌, ◌↔◌, List, ◌++◌, length}
use Rattle.rn_value.specs.declared.value.Value.{Value}
use Rattle.rn_term.specs.Stores.{State}
use Rattle.rn_term.specs.Assignments.{Satisfies, value_at}

-- an assignment gives two ids one value
abbrev pub AreOne : ℕ → ℕ → List Value → Type 0
AreOne a b vs = value_at vs a ≡ value_at vs b

-- an assignment of a store's first ids goes on to one of the store
abbrev pub CanBeExtended : State → List Value → Type 0
CanBeExtended s vs = (more : List Value) × Satisfies s (vs ++ more)

-- The assignments of a store, on the ids that it had before, are exactly those that satisfied it
-- then and give two ids one value.
abbrev pub SaysBoth : State → State → ℕ → ℕ → Type 0
SaysBoth old new a b = (vs : List Value) → length vs ≡ length old.terms →
    (CanBeExtended new vs ↔ (Satisfies old vs × AreOne a b vs))
