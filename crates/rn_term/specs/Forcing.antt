-- What all assignments of a store give an id.
use Rattle.std.specs.Prelude.{ℕ, ◌≡◌, ◌<◌, ◌++◌, Bool, true, false, List, [], Option, Some, None}
use Rattle.std.specs.Prelude.{length, map, slice_index_or}
use Rattle.rn_value.specs.declared.value.Value.{Value, out-Value}
use Rattle.rn_value.specs.declared.value.Value.TheOpen as V
use Rattle.rn_value.specs.declared.value.Value.TheVariants as Value
use Rattle.rn_term.specs.declared.term.Term.TheVariants as T
use Rattle.rn_term.specs.Stores.{State, term_at, Leads}
use Rattle.rn_term.specs.Assignments.{Satisfies, value_at}
use Rattle.rn_term.specs.Occurring.{HasFree}

-- an id is forced to a value: all assignments give it that one
abbrev pub IsForced : State → ℕ → Value → Type 0
IsForced s id v = (vs : List Value) → Satisfies s vs → value_at vs id ≡ v

-- a value is a list
abbrev pub IsList : Value → Type 0
IsList v = (items : List Value) × (v ≡ Value.List items)

abbrev pub items_step : V.Value-F Value → List Value
items_step (V.List items) = items
items_step _ = []

-- the elements of a value that is a list, and none of another
abbrev pub items_of : Value → List Value
items_of v = items_step (out-Value v)

-- all assignments give an id a list
abbrev pub IsAlwaysList : State → ℕ → Type 0
IsAlwaysList s id = (vs : List Value) → Satisfies s vs → IsList (value_at vs id)

-- some assignment gives an id a list
abbrev pub MayBeList : State → ℕ → Type 0
MayBeList s id = (vs : List Value) × Satisfies s vs × IsList (value_at vs id)

-- an answer of `ground`: the value to which an id is forced, or none where a free variable occurs
-- in it
abbrev pub IsAnswer : State → ℕ → Option Value → Type 0
IsAnswer s id None = HasFree s id
IsAnswer s id (Some v) = IsForced s id v

-- an answer for ids: their values stand after others, or a free variable occurs in one of them
abbrev pub AreAnswers : State → List ℕ → List Value → List Value → Bool → Type 0
AreAnswers s ids before after true =
    (vs : List Value) → Satisfies s vs → after ≡ before ++ map (value_at vs) ids
AreAnswers s ids before after false =
    (k : ℕ) × (k < length ids) × HasFree s (slice_index_or ids k 0)

-- a list ends in a variable: links lead to it from the list's tail
abbrev pub EndsAList : State → ℕ → Type 0
EndsAList s var =
    (id : ℕ) × (ids : List ℕ) × (tail : ℕ) × (id < length s.terms) ×
    (term_at s id ≡ T.Cons ids tail) × Leads s.notes tail var
