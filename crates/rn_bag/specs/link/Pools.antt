-- The lists of a pool.
use Rattle.std.specs.Prelude.{ℕ, ◌≡◌, List, [], ◌∷◌, ◌++◌, length, set, Option, None, Some, slice_index_or}
use Rattle.rn_value.specs.declared.value.Value.{Value}

-- the lists that all copies share, and after them those of one copy
abbrev pub lists_in : Option (List (List Value)) → List (List Value) → List (List Value)
lists_in None own = own
lists_in (Some base) own = base ++ own

-- a value came after those of the list at a position, which had so many
pub record IsPushed (old : List (List Value)) (at len : ℕ) (value : Value)
    (new : List (List Value)) : Type 0 where
  pub size : len ≡ length (slice_index_or old at [])
  pub lists : new ≡ set old at (slice_index_or old at [] ++ value ∷ [])
