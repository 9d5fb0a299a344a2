-- What a store is after what a variable has to be was added to it.
use Rattle.std.specs.Prelude.{ℕ, ⊤, ◌≡◌, ◌≢◌, ◌<◌, List, Option, Some, None, length}
use Rattle.rn_value.specs.declared.value.Value.{Value}
use Rattle.rn_value.specs.declared.value.Value.TheVariants as Value
use Rattle.rn_term.specs.declared.term.Term.{Term}
use Rattle.rn_term.specs.declared.term.Term.TheVariants as T
use Rattle.rn_term.specs.Stores.{State, term_at, IsBuiltBelow}
use Rattle.rn_term.specs.Assignments.{Keeps, Satisfies, HasValue, value_at}
use Rattle.rn_term.specs.Forcing.{IsAlwaysList}
use Rattle.rn_term.specs.Undoing.{LeavesEarlier}
use Rattle.rn_unify.specs.declared.equation.Other.{Other}
use Rattle.rn_unify.specs.declared.equation.Other.TheVariants as O
use Rattle.rn_unify.specs.declared.rests.Rest.{Rest}
use Rattle.rn_unify.specs.link.Binding.{Becomes, free_number}
use Rattle.rn_unify.specs.link.Rests.{rest_value}

-- A wish on a value turns into another as terms are added that aren't variables: the later store's
-- assignments that make the other true of a value are, on the ids from before, those of the store
-- before that make the wish true of it.
pub record Turns (old : State) (wish : List Value → Value → Type 0) (new : State)
    (left : List Value → Value → Type 0) : Type 0 where
  pub earlier : LeavesEarlier old new
  pub keeps : Keeps new
  pub becomes : (v : Value) → Becomes old (λ vs. wish vs v) new (λ vs. left vs v)
  pub number : free_number new ≡ free_number old
  pub notes : new.notes ≡ old.notes

-- a value is, under an assignment, one of a term
abbrev pub IsOf : Term → List Value → Value → Type 0
IsOf term vs v = HasValue vs term v

-- where a term has a tail, all assignments of a store give that a list
abbrev pub HasTail : State → Term → Type 0
HasTail s (T.Cons ids tail) = IsAlwaysList s tail
HasTail s _ = ⊤

-- a term that a store may get, and that is no variable
abbrev pub MayStand : State → Term → Type 0
MayStand s term = IsBuiltBelow (length s.terms) term × HasTail s term × (term ≢ T.Free)

-- what a variable has to be stands at an id: at its own, or where no variable is
abbrev pub IsPlaced : State → Other → ℕ → Type 0
IsPlaced s (O.Here id) to = to ≡ id
IsPlaced s _ to = term_at s to ≢ T.Free

-- what is left of a list stands at an id, where no variable is
abbrev pub IsKnown : State → Option (Rest × ℕ) → Type 0
IsKnown s None = ⊤
IsKnown s (Some known) =
    (known.0.id < length s.terms) × (known.1 < length s.terms) × (term_at s known.1 ≢ T.Free) ×
    ((vs : List Value) → Satisfies s vs →
    value_at vs known.1 ≡ Value.List (rest_value vs known.0))

-- the list of elements before a tail, or before none
abbrev pub list_of : List ℕ → Option ℕ → Term
list_of ids None = T.List ids
list_of ids (Some tail) = T.Cons ids tail
