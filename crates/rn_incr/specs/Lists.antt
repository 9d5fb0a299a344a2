-- The enabled bindings of each instance, kept as a list, and how many there are of all.
use Rattle.std.specs.Prelude.{ℕ, ◌≡◌, ◌≢◌, ◌↔◌, List, [], true, length, Contains, AllPairs}
use Rattle.std.specs.Prelude.{Some, slice_index_or}
use Rattle.std.specs.List.{AllAdjacentBelow}
use Rattle.std.specs.declared.cmp.Ordering.TheVariants.{Less}
use Rattle.rn_model.specs.declared.system.System.{System}
use Rattle.rn_model.specs.declared.binding.Binding.{Binding}
use Rattle.rn_model.specs.Enabling.{Enabled}
use Rattle.rn_model.specs.Markings.{Marking, Instance, instance_at}
use Rattle.rn_model.specs.Order.{binding_cmp}
use Rattle.rn_model.specs.Systems.{may_start}
use Rattle.rn_finder.specs.Starting.{HasStartIn}
use Rattle.rn_reach.specs.Reach.{ReachesOne}

-- Kept lists: the marking and the depth for which they were made, and the list of each instance, at
-- the index that is its number.
pub record Listed : Type 0 where
  pub marking : Marking
  pub depth : ℕ
  pub lists : List (List Binding)

-- just the enabled bindings that start in an instance, ascending
pub record IsListOf (system : System) (m : Marking) (depth n : ℕ) (bs : List Binding) : Type 0 where
  pub just : (b : Binding) → Contains bs b ↔ (Enabled system m b depth × HasStartIn n b)
  pub ascending : AllAdjacentBelow (λ b c. binding_cmp b c ≡ Less) bs (length bs)

-- the list of each instance is that; where none starts, and past the last, it is empty
abbrev pub AreListsOf : System → Listed → Type 0
AreListsOf system l =
    (n : ℕ) → IsListOf system l.marking l.depth n (slice_index_or l.lists n [])

-- so many have this property
abbrev pub IsNumberOf : {A : Type 0} → (A → Type 0) → ℕ → Type 0
IsNumberOf {A} Has n =
    (xs : List A) × ((x : A) → Contains xs x ↔ Has x) × AllPairs (λ x y. x ≢ y) xs
    × (n ≡ length xs)

-- so many bindings are enabled
abbrev pub IsCount : System → Marking → ℕ → ℕ → Type 0
IsCount system m depth n = IsNumberOf (λ b. Enabled system m b depth) n

-- an instance is there, and its net has a transition without uplink
abbrev pub MayStartIn : System → Marking → ℕ → Type 0
MayStartIn system m n =
    (i : Instance) × (instance_at m n ≡ Some i) × (may_start system i.net ≡ true)

-- such an instance that reaches one of these
abbrev pub IsTouched : System → Marking → List ℕ → ℕ → Type 0
IsTouched system m changed n = MayStartIn system m n × ReachesOne m changed n
