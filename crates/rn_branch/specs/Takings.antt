-- What is kept of what decisions take.
use Rattle.std.specs.Prelude.{ℕ, ◌≡◌, ◌≤◌, ◌+◌, List, [], ◌∷◌, Some, length, slice_get, take}
use Rattle.rn_value.specs.declared.value.InstRef.{InstRef}
use Rattle.rn_value.specs.declared.value.Value.{Value}
use Rattle.rn_model.specs.declared.system.NetArc.{NetArc}
use Rattle.rn_model.specs.declared.system.System.{System}
use Rattle.rn_model.specs.Demands.{takes}
use Rattle.rn_model.specs.Lists.{count_of}
use Rattle.rn_growing.specs.declared.decision.Head.{Head}
use Rattle.rn_growing.specs.declared.decision.Decision.{Decision}
use Rattle.rn_growing.specs.declared.decision.Decision.TheVariants.{Found}
use Rattle.rn_growing.specs.Decisions.{transition_in}
use Rattle.rn_search.specs.Taking.{taken_so_far}
use Rattle.rn_branch.specs.declared.takings.TakingCounts.{TakingCounts}

-- A decision finds a token that its arc takes from a place of an instance.
pub record Takes (system : System) (d : Decision) (inst : InstRef) (place : ℕ) (v : Value)
    : Type 0 where
  pub head : Head
  pub k : ℕ
  pub arc : NetArc
  pub is : d ≡ Found head k v
  pub on : head.inst ≡ inst
  pub there : slice_get (transition_in system head).arcs k ≡ Some arc
  pub at : arc.place ≡ place
  pub it : takes arc.kind v ≡ v ∷ []

-- Beside the first decisions stand numbers. What a decision takes, those up to it take at least so
-- often.
pub record AreTakings (system : System) (ds : List Decision) (t : TakingCounts) : Type 0 where
  pub within : length t.counts.items ≤ length ds
  pub each : (i n : ℕ) (d : Decision) (inst : InstRef) (place : ℕ) (v : Value) →
      slice_get t.counts.items i ≡ Some n → slice_get ds i ≡ Some d →
      Takes system d inst place v →
      n ≤ count_of v (taken_so_far system inst place (take (i + 1) ds))
