-- Which instances may refer to which, as a list for each number: those that may refer to it.
use Rattle.std.specs.Prelude.{ℕ, ◌≡◌, ◌≤◌, ◌+◌, ◌^◌, false, List, [], Contains, slice_index_or}
use Rattle.rn_value.specs.declared.value.Value.{Value}
use Rattle.rn_model.specs.Liveness.{mentions}
use Rattle.rn_model.specs.Markings.{Marking, tokens_at}
use Rattle.rn_reach.specs.Reach.{RefersTo}

-- the holders of an instance, and none past the last list
abbrev pub held_by : List (List ℕ) → ℕ → List ℕ
held_by holders n = slice_index_or holders n []

-- the list of each instance has all that refer to it, and maybe others
abbrev pub HaveHolders : Marking → List (List ℕ) → Type 0
HaveHolders m holders = (holder n : ℕ) → RefersTo m holder n → Contains (held_by holders n) holder

-- no holder was lost
abbrev pub KeepHolders : List (List ℕ) → List (List ℕ) → Type 0
KeepHolders before after =
    (holder n : ℕ) → Contains (held_by before n) holder → Contains (held_by after n) holder

-- the lists have these instances wherever they refer to one
abbrev pub HaveTheseHolders : Marking → List ℕ → List (List ℕ) → Type 0
HaveTheseHolders m those holders =
    (holder n : ℕ) → Contains those holder → RefersTo m holder n →
    Contains (held_by holders n) holder

-- these numbers are found, and with each number its holders
pub record HasItsHolders (holders : List (List ℕ)) (those found : List ℕ) : Type 0 where
  pub these : (n : ℕ) → Contains those n → Contains found n
  pub back : (holder n : ℕ) → Contains found n → Contains (held_by holders n) holder →
      Contains found holder

-- no token past the first 2^32 - 1 places of an instance mentions an existing one, as where tokens have
-- the kinds of their places
abbrev pub MentionNear : Marking → Type 0
MentionNear m = (holder n place : ℕ) (v : Value) → 2 ^ 32 ≤ place + 1 →
    Contains (tokens_at m holder place) v → mentions v n ≡ false
