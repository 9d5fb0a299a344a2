-- What a store is after the variables of equations were bound.
use Rattle.std.specs.Prelude.{ℕ, zero, suc, ◌≡◌, ◌≢◌, ◌<◌, ◌+◌, ◌⊎◌, List, [], ◌∷◌, ◌++◌, Option}
use Rattle.std.specs.Prelude.{None}
use Rattle.std.specs.Prelude.{length, take}
use Rattle.rn_value.specs.declared.value.Value.{Value}
use Rattle.rn_term.specs.declared.term.Term.{Term}
use Rattle.rn_term.specs.declared.term.Term.TheVariants as T
use Rattle.rn_term.specs.Stores.{State, term_at, link_of, Leads, with_note}
use Rattle.rn_term.specs.Assignments.{Satisfies, Keeps}
use Rattle.rn_term.specs.Occurring.{IsFree}
use Rattle.rn_unify.specs.declared.equation.Equation.{Equation}
use Rattle.rn_unify.specs.link.Equations.{Solves, AreEachOne, AreWithin}
use Rattle.rn_unify.specs.Unifying.{AreOne}

-- 1 for a variable that isn't bound, and 0 for what is
abbrev pub free_here : Term → Option ℕ → ℕ
free_here T.Free None = 1
free_here _ _ = 0

-- how many of the first ids are free variables
abbrev pub free_below : State → ℕ → ℕ
free_below s zero = 0
free_below s (suc n) = free_below s n + free_here (term_at s n) (link_of s.notes n)

-- how many free variables a store has
abbrev pub free_number : State → ℕ
free_number s = free_below s (length s.terms)

-- what an assignment gives the ids of a store
abbrev pub prefix_of : State → List Value → List Value
prefix_of s vs = take (length s.terms) vs

-- A wish on the assignments of a store becomes another on those of a later one: the later store's
-- assignments that make the other true are, on the ids from before, those of the store before that
-- make the wish true.
pub record Becomes
    (old : State) (wish : List Value → Type 0) (new : State) (left : List Value → Type 0) : Type 0
  where
    pub back : (vs : List Value) → Satisfies new vs → Satisfies old (prefix_of old vs)
    pub enough : (vs : List Value) → Satisfies new vs → left vs → wish (prefix_of old vs)
    pub forth : (vs : List Value) → Satisfies old vs → wish vs →
        (more : List Value) × Satisfies new (vs ++ more) × left (vs ++ more)

-- The variables of equations were bound, but for pairs that are left to be made one. Where there
-- are equations fewer variables are free.
pub record IsBound
    (old : State) (equations : List Equation) (new : State) (pairs : List (ℕ × ℕ)) : Type 0 where
  pub within : AreWithin new pairs
  pub kept : Keeps new
  pub becomes : Becomes old (λ vs. Solves vs equations) new (AreEachOne pairs)
  pub fewer : 0 < length equations → free_number new < free_number old

-- links lead from two ids to two others, which aren't bound
pub record AreEnds (s : State) (a b x y : ℕ) : Type 0 where
  pub kept : Keeps s
  pub first : Leads s.notes a x
  pub second : Leads s.notes b y
  pub first_within : x < length s.terms
  pub second_within : y < length s.terms
  pub first_end : link_of s.notes x ≡ None
  pub second_end : link_of s.notes y ≡ None

-- one of two ids, a free variable, was bound to the other
abbrev pub IsLinked : State → ℕ → ℕ → State → Type 0
IsLinked old x y new =
    (IsFree old x × (new ≡ with_note old x y)) ⊎ (IsFree old y × (new ≡ with_note old y x))

-- two ids that aren't variables are one under all assignments, or are a pair that is left
abbrev pub IsLeft : State → ℕ → ℕ → List (ℕ × ℕ) → List (ℕ × ℕ) → Type 0
IsLeft s x y before after =
    (((vs : List Value) → Satisfies s vs → AreOne x y vs) × (after ≡ before))
    ⊎ (after ≡ before ++ (x, y) ∷ [])

-- Two ids were made one: links lead from both to one end, or one end was bound to the other, or the
-- ends aren't variables and are left.
pub record IsSolved
    (old : State) (a b : ℕ) (before : List (ℕ × ℕ)) (new : State) (after : List (ℕ × ℕ)) : Type 0
  where
    pub x : ℕ
    pub y : ℕ
    pub ends : AreEnds old a b x y
    pub way : ((x ≡ y) × (new ≡ old) × (after ≡ before))
        ⊎ ((IsLinked old x y new × (after ≡ before))
        ⊎ ((term_at old x ≢ T.Free) × (new ≡ old) × IsLeft old x y before after))
