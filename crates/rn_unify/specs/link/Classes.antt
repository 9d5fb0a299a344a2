-- Which ids are known to be one.
use Rattle.std.specs.Prelude.{ℕ, suc, ◌≡◌, slice_index_or}
use Rattle.rn_value.specs.declared.value.Value.{Value}
use Rattle.rn_unify.specs.declared.classes.Classes.{Classes}

-- values fit classes: each id has the value of the one with which it was made one
abbrev pub Fits : Classes → (ℕ → Value) → Type 0
Fits classes f =
    (id parent : ℕ) → slice_index_or classes.parents.items id 0 ≡ suc parent → f id ≡ f parent
