-- What a store holds: terms, and notes of which variables were bound.
use Rattle.std.specs.Prelude.{ℕ, ◌≡◌, ◌<◌, ⊤, List, [], ◌∷◌, ◌++◌, Option, Some, None}
use Rattle.std.specs.Prelude.{if◌then◌else◌, nat_eq, slice_index_or, length, All}
use Rattle.rn_term.specs.declared.term.Term.{Term}
use Rattle.rn_term.specs.declared.term.Term.TheVariants as T

-- The terms, each at its id, and the notes, the oldest first: which variable was bound, and to
-- which id.
pub record State : Type 0 where
  pub terms : List Term
  pub notes : List (ℕ × ℕ)

-- the term at an id, a variable where there is none
abbrev pub term_at : State → ℕ → Term
term_at s id = slice_index_or s.terms id T.Free

-- the id to which a variable was bound
abbrev pub link_of : List (ℕ × ℕ) → ℕ → Option ℕ
link_of [] id = None
link_of (note ∷ notes) id = if nat_eq note.0 id then Some note.1 else link_of notes id

-- links lead from one id to another, or the two are the same
pub data Leads (notes : List (ℕ × ℕ)) : ℕ → ℕ → Type 0 where
  here : {id : ℕ} → Leads notes id id
  next : {id to end : ℕ} → link_of notes id ≡ Some to → Leads notes to end → Leads notes id end

-- a term whose parts are all below an id, and that has an element before its tail where it has one
abbrev pub IsBuiltBelow : ℕ → Term → Type 0
IsBuiltBelow n T.Free = ⊤
IsBuiltBelow n (T.Atom v) = ⊤
IsBuiltBelow n (T.Tuple ids) = All (λ id. id < n) ids
IsBuiltBelow n (T.List ids) = All (λ id. id < n) ids
IsBuiltBelow n (T.Cons ids tail) = All (λ id. id < n) ids × (0 < length ids) × (tail < n)

-- a store with one more term, whose id is the size of the store before
abbrev pub with_term : State → Term → State
with_term s term = record { terms = s.terms ++ term ∷ []; notes = s.notes }

-- a store with one more note
abbrev pub with_note : State → ℕ → ℕ → State
with_note s var to = record { terms = s.terms; notes = s.notes ++ (var, to) ∷ [] }
