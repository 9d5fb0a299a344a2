-- Terms without variables that aren't bound.
use Rattle.std.specs.Prelude.{ℕ, ◌≡◌, ◌↔◌, ◌<◌, List, length, Some, slice_index_or}
use Rattle.rn_value.specs.declared.value.Value.{Value}
use Rattle.rn_term.specs.declared.term.Term.TheVariants as T
use Rattle.rn_term.specs.Stores.{State, term_at, link_of}
use Rattle.rn_term.specs.Assignments.{Satisfies, value_at, Keeps}
use Rattle.rn_term.specs.Forcing.{IsForced}

-- A term is ground where it is a value, is built of terms that are, or is a variable that was bound
-- to one that is.
pub data IsGround (s : State) : ℕ → Type 0 where
  atom : (id : ℕ) (v : Value) → id < length s.terms → term_at s id ≡ T.Atom v → IsGround s id
  tuple : (id : ℕ) (ids : List ℕ) → id < length s.terms → term_at s id ≡ T.Tuple ids →
      ((k : ℕ) → k < length ids → IsGround s (slice_index_or ids k 0)) → IsGround s id
  list : (id : ℕ) (ids : List ℕ) → id < length s.terms → term_at s id ≡ T.List ids →
      ((k : ℕ) → k < length ids → IsGround s (slice_index_or ids k 0)) → IsGround s id
  cons : (id : ℕ) (ids : List ℕ) (tail : ℕ) → id < length s.terms → term_at s id ≡ T.Cons ids tail →
      ((k : ℕ) → k < length ids → IsGround s (slice_index_or ids k 0)) → IsGround s tail →
      IsGround s id
  bound : (id to : ℕ) → link_of s.notes id ≡ Some to → IsGround s to → IsGround s id

-- All assignments of a store give a term that is ground the same value.
abbrev pub GroundIsForced : Type 0
GroundIsForced = (s : State) (id : ℕ) → IsGround s id → (vs ws : List Value) →
    Satisfies s vs → Satisfies s ws → value_at vs id ≡ value_at ws id

-- A term of a store that is kept is ground exactly where it is forced.
abbrev pub ForcedIsGround : Type 0
ForcedIsGround = (s : State) (id : ℕ) → Keeps s → id < length s.terms →
    (IsGround s id ↔ ((v : Value) × IsForced s id v))
