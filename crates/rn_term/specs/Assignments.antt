-- What a store says: the assignments of values to its ids that satisfy it.
use Rattle.std.specs.Prelude.{ℕ, ◌≡◌, ◌<◌, ⊤, List, [], ◌++◌, map, length, take}
use Rattle.std.specs.Prelude.{Some, None, slice_index_or}
use Rattle.rn_value.specs.declared.value.Value.{Value}
use Rattle.rn_value.specs.declared.value.Value.TheVariants as Value
use Rattle.rn_term.specs.declared.term.Term.{Term}
use Rattle.rn_term.specs.declared.term.Term.TheVariants as T
use Rattle.rn_term.specs.Stores.{State, term_at, link_of, Leads, IsBuiltBelow}

-- the value that an assignment gives an id
abbrev pub value_at : List Value → ℕ → Value
value_at vs id = slice_index_or vs id (Value.Tuple [])

-- A term has a value under an assignment of its parts: a variable has any, and a built term the one
-- that is built of its parts' values. The tail of a `Cons` is a list.
abbrev pub HasValue : List Value → Term → Value → Type 0
HasValue vs T.Free v = ⊤
HasValue vs (T.Atom w) v = v ≡ w
HasValue vs (T.Tuple ids) v = v ≡ Value.Tuple (map (value_at vs) ids)
HasValue vs (T.List ids) v = v ≡ Value.List (map (value_at vs) ids)
HasValue vs (T.Cons ids tail) v =
    (others : List Value) × (value_at vs tail ≡ Value.List others) ×
    (v ≡ Value.List (map (value_at vs) ids ++ others))

-- An assignment satisfies a store: it has a value for each id, each term has its value, and each
-- bound variable has the value of the id to which it was bound.
pub record Satisfies (s : State) (vs : List Value) : Type 0 where
  pub each : length vs ≡ length s.terms
  pub terms : (id : ℕ) → id < length s.terms → HasValue vs (term_at s id) (value_at vs id)
  pub links : (id to : ℕ) → link_of s.notes id ≡ Some to → value_at vs id ≡ value_at vs to

-- some assignment gives the tail of a `Cons` a list
abbrev pub HasListTail : State → Term → Type 0
HasListTail s (T.Cons ids tail) =
    (vs : List Value) × (others : List Value) ×
    Satisfies s vs × (value_at vs tail ≡ Value.List others)
HasListTail s _ = ⊤

-- some assignment gives both ids one value
abbrev pub MayBeOne : State → ℕ → ℕ → Type 0
MayBeOne s a b = (vs : List Value) × Satisfies s vs × (value_at vs a ≡ value_at vs b)

-- A note of a variable, which wasn't bound before, and to which no links led from the other id.
pub record IsNote (terms : List Term) (before : List (ℕ × ℕ)) (note : ℕ × ℕ) : Type 0 where
  pub var : note.0 < length terms
  pub to : note.1 < length terms
  pub free : slice_index_or terms note.0 T.Free ≡ T.Free
  pub fresh : link_of before note.0 ≡ None
  pub apart : ¬ Leads before note.1 note.0

-- What every store keeps: its terms are built of earlier ones, its notes are of variables that
-- weren't bound before, and some assignment satisfies it.
pub record Keeps (s : State) : Type 0 where
  pub built : (id : ℕ) → id < length s.terms → IsBuiltBelow id (term_at s id)
  pub noted : (k : ℕ) → k < length s.notes →
      IsNote s.terms (take k s.notes) (slice_index_or s.notes k (0, 0))
  pub satisfied : (vs : List Value) × Satisfies s vs
