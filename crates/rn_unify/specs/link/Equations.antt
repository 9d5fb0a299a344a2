-- Equations of free variables, and what is found of a wish on assignments.
use Rattle.std.specs.Prelude.{ℕ, ⊤, ◌≡◌, ◌≢◌, ◌<◌, ◌≤◌, ◌↔◌, Bool, true, false, List, ◌++◌}
use Rattle.std.specs.Prelude.{Option, Some, None, length}
use Rattle.std.specs.List.{AllByRecursion}
use Rattle.rn_term.specs.declared.term.Term.{Term}
use Rattle.rn_term.specs.declared.term.Term.TheVariants as T
use Rattle.rn_value.specs.declared.value.Value.{Value}
use Rattle.rn_value.specs.declared.value.Value.TheVariants as Value
use Rattle.rn_term.specs.Stores.{State, link_of, term_at}
use Rattle.rn_term.specs.Assignments.{Satisfies, value_at}
use Rattle.rn_term.specs.Occurring.{IsFree}
use Rattle.rn_unify.specs.declared.equation.Equation.{Equation}
use Rattle.rn_unify.specs.declared.equation.Other.{Other}
use Rattle.rn_unify.specs.declared.equation.Other.TheVariants as O
use Rattle.rn_unify.specs.declared.classes.Classes.{Classes}
use Rattle.rn_unify.specs.link.Classes.{Fits}
use Rattle.rn_unify.specs.link.Rests.{rest_value}
use Rattle.rn_unify.specs.Unifying.{AreOne}

-- a term is a list that has a number of elements, and one more before its tail
abbrev pub HasBefore : ℕ → Term → Type 0
HasBefore from (T.List ids) = from ≤ length ids
HasBefore from (T.Cons ids tail) = from < length ids
HasBefore from (T.Atom v) =
    (items : List Value) × (v ≡ Value.List items) × (from ≤ length items)
HasBefore from _ = ⊥

-- what a variable has to be is an id of the store, something new, or what is left of a list
abbrev pub CanStand : State → Other → Type 0
CanStand s (O.Here to) = to < length s.terms
CanStand s (O.Left rest) =
    rest.id < length s.terms × HasBefore rest.from (term_at s rest.id)
CanStand s _ = ⊤

-- an equation that is found: its variable is free, and an id that it has to be is another one, and
-- bound to nothing
pub record IsFound (s : State) (equation : Equation) : Type 0 where
  pub free : IsFree s equation.var
  pub stands : CanStand s equation.other
  pub apart : (to : ℕ) → equation.other ≡ O.Here to →
      (to ≢ equation.var) × (link_of s.notes to ≡ None)

-- a value is, under an assignment, that of what a variable has to be
abbrev pub IsOther : Other → List Value → Value → Type 0
IsOther (O.Here to) vs v = v ≡ value_at vs to
IsOther (O.Value w) vs v = v ≡ w
IsOther (O.Values values) vs v = v ≡ Value.List values
IsOther (O.Left rest) vs v = v ≡ Value.List (rest_value vs rest)

-- an id names a value, where one is given
abbrev pub IsSource : State → Option ℕ → Value → Type 0
IsSource s None v = ⊤
IsSource s (Some id) v = (id < length s.terms) × (term_at s id ≡ T.Atom v)

-- what a variable has to be, where that is what is left of values: of the list that an id names,
-- where one is given
abbrev pub left_other : Option ℕ → ℕ → List Value → Other
left_other None from left = O.Values left
left_other (Some id) from left = O.Left (record { id = id; from = from })

-- an assignment gives a variable the value of what it has to be
abbrev pub GivesOther : List Value → ℕ → Other → Type 0
GivesOther vs var other = IsOther other vs (value_at vs var)

-- an assignment satisfies equations
abbrev pub Solves : List Value → List Equation → Type 0
Solves vs equations =
    AllByRecursion (λ equation. GivesOther vs equation.var equation.other) equations

-- What is found of a wish on the assignments of a store: that none makes it true, or equations,
-- after those from before, that an assignment satisfies exactly where the wish is true.
abbrev pub Finds :
    State → (List Value → Type 0) → List Equation → List Equation → Bool → Type 0
Finds s wish before after true =
    (more : List Equation) × (after ≡ before ++ more) × AllByRecursion (IsFound s) more ×
    ((vs : List Value) → Satisfies s vs → wish vs ↔ Solves vs more)
Finds s wish before after false = (vs : List Value) → Satisfies s vs → ¬ wish vs

-- the classes of ids are so that all assignments that satisfy the store and the equations fit them
abbrev pub AreMade : State → Classes → List Equation → Type 0
AreMade s made found =
    (vs : List Value) → Satisfies s vs → Solves vs found → Fits made (value_at vs)

-- What is added to equations for a wish, where the classes of ids that were made one go along: that
-- no assignment which satisfies the equations makes it true, or equations after those from before,
-- which an assignment that satisfies those satisfies exactly where the wish is true.
abbrev pub Adds :
    State → (List Value → Type 0) → Classes → List Equation → List Equation → Bool → Type 0
Adds s wish made before after true =
    (more : List Equation) × (after ≡ before ++ more) × AllByRecursion (IsFound s) more ×
    ((vs : List Value) → Satisfies s vs → Solves vs before → wish vs ↔ Solves vs more) ×
    AreMade s made after
Adds s wish made before after false =
    (vs : List Value) → Satisfies s vs → Solves vs before → ¬ wish vs

-- an assignment gives each of some pairs one value
abbrev pub AreEachOne : List (ℕ × ℕ) → List Value → Type 0
AreEachOne pairs vs = AllByRecursion (λ pair. AreOne pair.0 pair.1 vs) pairs

-- pairs of ids of a store
abbrev pub AreWithin : State → List (ℕ × ℕ) → Type 0
AreWithin s pairs =
    AllByRecursion (λ pair. (pair.0 < length s.terms) × (pair.1 < length s.terms)) pairs
