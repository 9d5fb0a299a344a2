-- Positions in lists, and what is left of a list there.
use Rattle.std.specs.Prelude.{ℕ, ◌+◌, ⊤, ◌≡◌, ◌⊎◌, ◌<◌, ◌≤◌, Bool, true, false, IsTrue, List, []}
use Rattle.std.specs.Prelude.{None, length, drop}
use Rattle.rn_value.specs.declared.value.Value.{Value}
use Rattle.rn_term.specs.declared.term.Term.{Term}
use Rattle.rn_term.specs.declared.term.Term.TheVariants as T
use Rattle.rn_term.specs.Stores.{State, term_at, link_of, Leads}
use Rattle.rn_term.specs.Assignments.{value_at}
use Rattle.rn_term.specs.Forcing.{IsAlwaysList, items_of}
use Rattle.rn_unify.specs.declared.rests.Rest.{Rest}

-- a term is a list whose first elements are terms
abbrev pub spelled : Term → Bool
spelled (T.List ids) = true
spelled (T.Cons ids tail) = true
spelled _ = false

abbrev pub IsSpelled : Term → Type 0
IsSpelled t = IsTrue (spelled t)

-- a term is built of others
abbrev pub IsComposed : Term → Type 0
IsComposed T.Free = ⊥
IsComposed (T.Atom v) = ⊥
IsComposed _ = ⊤

-- a list's elements before its tail
abbrev pub elements_of : Term → List ℕ
elements_of (T.List ids) = ids
elements_of (T.Cons ids tail) = ids
elements_of _ = []

-- what is left of a list, under an assignment
abbrev pub rest_value : List Value → Rest → List Value
rest_value vs rest = drop rest.from (items_of (value_at vs rest.id))

-- A position in a list: its id is bound to nothing, it has at most the list's elements before it,
-- and it isn't at a tail.
pub record IsRest (s : State) (rest : Rest) : Type 0 where
  pub within : rest.id < length s.terms
  pub end : link_of s.notes rest.id ≡ None
  pub list : IsAlwaysList s rest.id
  pub before : rest.from ≤ length (elements_of (term_at s rest.id))
  pub ahead : (ids : List ℕ) (tail : ℕ) → term_at s rest.id ≡ T.Cons ids tail →
      rest.from < length ids

-- A position is so many elements further than another: in the same term, or where links lead from
-- its tail, after its last element.
abbrev pub IsFurther : State → Rest → ℕ → Rest → Type 0
IsFurther s rest count further =
    (further ≡ record { id = rest.id; from = rest.from + count }) ⊎
    ((ids : List ℕ) × (tail : ℕ) × (term_at s rest.id ≡ T.Cons ids tail) ×
    (rest.from + count ≡ length ids) × Leads s.notes tail further.id × (further.from ≡ 0))
