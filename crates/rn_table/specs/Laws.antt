-- Laws over changed tables. Each is the contract of a function that does nothing.
use Rattle.std.specs.Prelude.{ℕ, ◌≡◌, ◌<◌, ◌≤◌, ◌^◌, List, [], ◌++◌, length, map, filter, flat_map, Some, None}
use Rattle.std.specs.Prelude.{if◌then◌else◌}
use Rattle.std.specs.List.Sorted.{IsSorted}
use Rattle.rn_value.specs.Order.{value_cmp}
use Rattle.rn_value.specs.declared.value.Value.{Value}
use Rattle.rn_value.specs.declared.value.InstRef.TheVariants.{Old}
use Rattle.rn_model.specs.declared.system.System.{System}
use Rattle.rn_model.specs.declared.binding.Binding.{Binding}
use Rattle.rn_model.specs.Demands.{asked_at, puts, taken_at, cleared_at}
use Rattle.rn_model.specs.Firing.{Made, Effects, marking_after}
use Rattle.rn_model.specs.Good.{Good}
use Rattle.rn_model.specs.Lists.{IsWithin, count_of}
use Rattle.rn_model.specs.Markings.{Instance, Marking, instance_at, tokens_at}
use Rattle.rn_table.specs.Changes.{changed, changed_tokens, values_at, with_made}
use Rattle.rn_table.specs.Staying.{stays}
use Rattle.rn_table.specs.declared.change.Change.{Change}

-- a good system has fewer than 2^32 nets
abbrev pub NetsAreFew : Type 0
NetsAreFew = (system : System) → Good system → length system.nets < 2 ^ 32

-- A place of an instance that is there, with the new ones, holds after a change what it held, less
-- what is taken and cleared there, and then what is put.
abbrev pub TokensAfterChange : Type 0
TokensAfterChange = (system : System) (change : Change) (m : Marking) (n place : ℕ)
    (i : Instance) → instance_at (with_made system change.made m) n ≡ Some i →
    place < length i.places →
    tokens_at (changed system change m) n place
    ≡ changed_tokens change n place (tokens_at (with_made system change.made m) n place)

-- where as much is put as is taken and cleared, ascending tokens stay
abbrev pub SameIsLeft : Type 0
SameIsLeft = (change : Change) (n place : ℕ) (tokens : List Value) →
    IsSorted value_cmp tokens →
    IsWithin (values_at change.taken n place ++ values_at change.cleared n place) tokens →
    ((v : Value) → count_of v (values_at change.put n place)
    ≡ count_of v (values_at change.taken n place ++ values_at change.cleared n place)) →
    changed_tokens change n place tokens ≡ tokens

-- an instance is there after a removal exactly where it was and isn't one of those removed
abbrev pub KeptAfterRemoval : Type 0
KeptAfterRemoval = (m : Marking) (numbers : List ℕ) (n : ℕ) →
    instance_at (record m { instances = filter (λ i. stays numbers i.number) m.instances }) n
    ≡ (if stays numbers n then instance_at m n else None)

-- A change is that of a firing: by counts, its rows take, clear and put at each place of each instance
-- what the firing does, under the numbers of the new instances; and it makes the same instances.
pub record IsChangeOf (system : System) (made : List Made) (b : Binding) (acts : Effects)
    (change : Change) : Type 0 where
  pub taken : (n place : ℕ) (v : Value) →
      count_of v (values_at change.taken n place)
      ≡ count_of v (taken_at system b (Old n) place)
  pub cleared : (n place : ℕ) (v : Value) →
      count_of v (values_at change.cleared n place)
      ≡ count_of v (flat_map (λ vs. vs) (cleared_at system b (Old n) place))
  pub put : (n place : ℕ) (v : Value) →
      count_of v (values_at change.put n place)
      ≡ count_of v (asked_at puts system acts.read (Old n) place)
  pub nets : change.made ≡ map (λ c. c.net) made

-- it takes and clears nothing of the instances that it makes
abbrev pub LeavesNew : Change → ℕ → Type 0
LeavesNew change next = (n place : ℕ) → next ≤ n →
    (values_at change.taken n place ≡ []) × (values_at change.cleared n place ≡ [])

-- then the marking after the change is the marking after the firing
abbrev pub FiringsAreChanges : Type 0
FiringsAreChanges = (system : System) (m : Marking) (made : List Made) (b : Binding)
    (acts : Effects) (change : Change) → IsChangeOf system made b acts change →
    LeavesNew change m.next → changed system change m ≡ marking_after system m made b acts
