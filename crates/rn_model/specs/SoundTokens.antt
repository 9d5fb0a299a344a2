-- Tokens that have their places' kinds and name only instances that are there.
use Rattle.std.specs.Prelude.{ℕ, ◌≡◌, Bool, true, false, Some, IsTrue, Contains}
use Rattle.std.specs.List.{list_any}
use Rattle.rn_value.specs.Kinds.{HasKind}
use Rattle.rn_value.specs.declared.value.InstRef.TheVariants.{New}
use Rattle.rn_value.specs.declared.value.Value.{Value, fold-Value}
use Rattle.rn_value.specs.declared.value.Value.TheOpen as V
use Rattle.rn_model.specs.declared.system.System.{System}
use Rattle.rn_model.specs.Systems.{place_kind}
use Rattle.rn_model.specs.Markings.{Marking, IsThere, net_of, tokens_at}
use Rattle.rn_model.specs.Liveness.{mentions}

-- one value, with whether a new instance occurs in each of its parts
abbrev pub new_in_step : V.Value-F Bool → Bool
new_in_step (V.Inst (New path j)) = true
new_in_step (V.Tuple has) = list_any (λ h. h) has
new_in_step (V.List has) = list_any (λ h. h) has
new_in_step _ = false

-- whether a new instance occurs in a value
abbrev pub holds_new : Value → Bool
holds_new = fold-Value Bool new_in_step

-- a token has its place's kind, holds no new instance, and names only instances that are there
pub record IsSoundToken (system : System) (m : Marking) (net place : ℕ) (v : Value) : Type 0 where
  pub kind : HasKind v (place_kind system net place)
  pub old : holds_new v ≡ false
  pub there : (n : ℕ) → IsTrue (mentions v n) → IsThere m n

-- each token of each instance is sound
abbrev pub HasSoundTokens : System → Marking → Type 0
HasSoundTokens system m = (n net place : ℕ) (v : Value) → net_of m n ≡ Some net →
    Contains (tokens_at m n place) v → IsSoundToken system m net place v
