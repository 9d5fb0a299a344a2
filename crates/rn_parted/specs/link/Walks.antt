-- Going through the tokens of a place and their shares. This only connects the code to the
-- definitions.
use Rattle.std.specs.Prelude.{ℕ, ◌≡◌, ◌≢◌, Bool, false, List, take, drop, Contains}
use Rattle.std.specs.List.{list_any}
use Rattle.rn_value.specs.declared.value.Value.{Value}
use Rattle.rn_model.specs.declared.system.System.{System}
use Rattle.rn_model.specs.Liveness.{mentions}
use Rattle.rn_model.specs.Markings.{Marking, tokens_at}
use Rattle.rn_parted.specs.declared.share.Share.{Share}
use Rattle.rn_parted.specs.Parted.{IsShare}

-- a value mentions none of these instances but one
abbrev pub Avoids : List ℕ → ℕ → Value → Type 0
Avoids found n v = (k : ℕ) → Contains found k → k ≢ n → mentions v k ≡ false

-- no other place of an instance holds a token that mentions one of them
abbrev pub OthersAvoid : Marking → ℕ → ℕ → List ℕ → Type 0
OthersAvoid m n place found = (p : ℕ) (v : Value) → p ≢ place → Contains (tokens_at m n p) v →
    Avoids found n v

-- a share of one marking whose token mentions none of them is one of the other marking
abbrev pub SharesStay : System → Marking → Marking → ℕ → ℕ → ℕ → List ℕ → Type 0
SharesStay system other m depth n place found = (s : Share) → IsShare system other depth n place s →
    Avoids found n s.token → IsShare system m depth n place s

-- Where one has come to: the shares before the cursor are those of the new marking, and have each
-- of these tokens; those from there on are of the old one.
pub record HasComeTo (system : System) (other m : Marking) (depth n place cursor : ℕ)
    (tokens : List Value) (shares : List Share) : Type 0 where
  pub done : (s : Share) → Contains (take cursor shares) s →
      IsShare system m depth n place s × Contains (tokens_at m n place) s.token
  pub ahead : (s : Share) → Contains (drop cursor shares) s → IsShare system other depth n place s
  pub all : (v : Value) → Contains tokens v →
      (s : Share) × Contains (take cursor shares) s × (s.token ≡ v)

-- no test of these says so of one of them
abbrev pub TestsAvoid : List ℕ → ℕ → List (ℕ → Bool) → Type 0
TestsAvoid found n tests = (k : ℕ) → Contains found k → k ≢ n →
    list_any (λ test. test k) tests ≡ false
