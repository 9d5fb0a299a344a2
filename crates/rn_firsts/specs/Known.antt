-- What is known of the enabled bindings of a table, and what is left of it at a later one.
use Rattle.std.specs.Prelude.{ℕ, ◌≡◌, ◌<◌, ◌^◌, Bool, true, List, Some, All, Contains, length}
use Rattle.rn_model.specs.declared.system.System.{System}
use Rattle.rn_model.specs.declared.binding.Binding.{Binding}
use Rattle.rn_model.specs.Enabling.{Enabled}
use Rattle.rn_model.specs.Liveness.{IsLive}
use Rattle.rn_model.specs.Markings.{Marking, Instance, IsThere, instance_at}
use Rattle.rn_reach.specs.Reach.{RefersTo}
use Rattle.rn_holders.specs.Holders.{held_by}
use Rattle.rn_finder.specs.Starting.{HasStartIn}

-- What is known: up to which number instances were looked at, and which of them are to be looked
-- at again; and, where they are held, which instances may refer to which.
pub record Known : Type 0 where
  pub until : ℕ
  pub again : List ℕ
  pub held : Bool
  pub holders : List (List ℕ)

-- No enabled binding starts with an instance below a number, unless it is to be looked at again.
pub record IsLookedAt (system : System) (m : Marking) (depth until : ℕ) (again : List ℕ)
    : Type 0 where
  pub none : (n : ℕ) → n < until → ¬ Contains again n →
      (b : Binding) → Enabled system m b depth → ¬ HasStartIn n b
  pub below : All (λ n. n < until) again

-- no instance has 2^32 places or more
abbrev pub HasFewPlaces : Marking → Type 0
HasFewPlaces m = (n : ℕ) (i : Instance) → instance_at m n ≡ Some i → length i.places < 2 ^ 32

-- the list of each instance has all live ones that refer to it, and maybe others
abbrev pub HaveLiveHolders : System → Marking → List (List ℕ) → Type 0
HaveLiveHolders system m holders = (holder n : ℕ) → IsLive system m holder →
    RefersTo m holder n → Contains (held_by holders n) holder

-- What is known is so at this marking.
pub record IsKnown (system : System) (m : Marking) (depth : ℕ) (k : Known) : Type 0 where
  pub looked : IsLookedAt system m depth k.until k.again
  pub held : k.held ≡ true → HaveLiveHolders system m k.holders

-- A marking comes after another, with a change in these instances at most: each other live one is
-- as before, none is live that was there before and wasn't, and what occurs in the tokens of live
-- ones is there. So it is of tables that stand for markings of one run.
pub record ComesAfter (system : System) (changed : List ℕ) (before after : Marking)
    : Type 0 where
  pub same : (n : ℕ) → IsLive system after n → ¬ Contains changed n →
      instance_at after n ≡ instance_at before n
  pub dead : (n : ℕ) → IsThere before n → ¬ IsLive system before n → ¬ IsLive system after n
  pub there : (holder n : ℕ) → IsLive system after holder → RefersTo after holder n →
      IsThere after n
