-- What occurs in a term, and which variables are free.
use Rattle.std.specs.Prelude.{ℕ, ⊤, ◌≡◌, ◌<◌, List, [], ◌∷◌, ◌++◌, Option, Some, None, length}
use Rattle.std.specs.List.{Contains}
use Rattle.rn_term.specs.declared.term.Term.{Term}
use Rattle.rn_term.specs.declared.term.Term.TheVariants as T
use Rattle.rn_term.specs.Stores.{State, term_at, link_of}

-- the ids that a term is built of, a tail after the elements before it
abbrev pub parts_of : Term → List ℕ
parts_of T.Free = []
parts_of (T.Atom v) = []
parts_of (T.Tuple ids) = ids
parts_of (T.List ids) = ids
parts_of (T.Cons ids tail) = ids ++ tail ∷ []

-- `Occurs s a b`: what `a` names occurs in what `b` names. They are one, or it occurs in a part of
-- that term, or in what that variable was bound to.
pub data Occurs (s : State) : ℕ → ℕ → Type 0 where
  here : {id : ℕ} → Occurs s id id
  in_part : {id part whole : ℕ} → Contains (parts_of (term_at s whole)) part →
      Occurs s id part → Occurs s id whole
  in_bound : {id to var : ℕ} → link_of s.notes var ≡ Some to →
      Occurs s id to → Occurs s id var

-- a free variable: one that wasn't bound
pub record IsFree (s : State) (id : ℕ) : Type 0 where
  pub within : id < length s.terms
  pub variable : term_at s id ≡ T.Free
  pub unbound : link_of s.notes id ≡ None

-- a free variable occurs in a term
abbrev pub HasFree : State → ℕ → Type 0
HasFree s id = (var : ℕ) × IsFree s var × Occurs s var id

-- a variable is looked for: a given one, or any where none is given
abbrev pub IsSought : Option ℕ → ℕ → Type 0
IsSought None id = ⊤
IsSought (Some var) id = var ≡ id

-- an id is a variable that is looked for
abbrev pub IsSoughtHere : State → Option ℕ → ℕ → Type 0
IsSoughtHere s sought id = (term_at s id ≡ T.Free) × IsSought sought id

-- a free variable that is looked for occurs in a term
abbrev pub HasSought : State → Option ℕ → ℕ → Type 0
HasSought s sought id = (var : ℕ) × IsFree s var × IsSought sought var × Occurs s var id
