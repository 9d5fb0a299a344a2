-- Laws over places that part bindings. Each is the contract of a function that does nothing.
use Rattle.std.specs.Prelude.{ℕ, ◌≡◌, ◌≢◌, ◌↔◌, ◌⊎◌, List, [], ◌∷◌, Some, IsTrue, Contains}
use Rattle.rn_value.specs.declared.value.Value.{Value}
use Rattle.rn_model.specs.declared.system.System.{System}
use Rattle.rn_model.specs.declared.binding.Binding.{Binding}
use Rattle.rn_model.specs.Enabling.{Enabled}
use Rattle.rn_model.specs.Markings.{Marking, instance_at, net_of, tokens_at}
use Rattle.rn_reach.specs.Reach.{RefersTo, StartsIn}
use Rattle.rn_table.specs.Alone.{alone}
use Rattle.rn_parted.specs.Parting.{parts}

-- Where a place parts them, a binding that starts in an instance is enabled exactly where it is
-- with no token in that place, or with one of its tokens alone.
abbrev pub BindingsAreParted : Type 0
BindingsAreParted = (system : System) (m : Marking) (b : Binding) (depth n net place : ℕ) →
    net_of m n ≡ Some net → IsTrue (parts system net place) → StartsIn b n →
    Enabled system m b depth
    ↔ (Enabled system (alone n place [] m) b depth
    ⊎ ((v : Value) × Contains (tokens_at m n place) v
    × Enabled system (alone n place (v ∷ []) m) b depth))

-- These have each of some instances but one, and with each that they have all that refer to it, but
-- that one.
pub record HaveHoldersBut (m : Marking) (n : ℕ) (those found : List ℕ) : Type 0 where
  pub these : (k : ℕ) → Contains those k → k ≢ n → Contains found k
  pub back : (holder k : ℕ) → Contains found k → RefersTo m holder k → holder ≢ n →
      Contains found holder

-- Two markings differ at most in these instances, and in one place of an instance.
pub record DifferAtMostAt (changed : List ℕ) (n place : ℕ) (m other : Marking) : Type 0 where
  pub others : (k : ℕ) → k ≢ n → (Contains changed k → ⊥) →
      instance_at other k ≡ instance_at m k
  pub own : instance_at (alone n place [] other) n ≡ instance_at (alone n place [] m) n

-- Where the instance refers, with these tokens in its place, to none that may reach a changed one
-- but by itself, the same bindings that start in it are enabled before and after.
abbrev pub PartsStay : Type 0
PartsStay = (system : System) (m other : Marking) (changed found : List ℕ) (b : Binding)
    (depth n place : ℕ) (vs : List Value) →
    DifferAtMostAt changed n place m other → HaveHoldersBut m n changed found →
    ((k : ℕ) → RefersTo (alone n place vs m) n k → k ≢ n → Contains found k → ⊥) →
    StartsIn b n →
    Enabled system (alone n place vs m) b depth ↔ Enabled system (alone n place vs other) b depth
