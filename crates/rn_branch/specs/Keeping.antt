-- What a branch keeps beside its decisions.
use Rattle.std.specs.Prelude.{ℕ, ◌≡◌, List, Some, length, slice_get, take}
use Rattle.rn_model.specs.declared.system.System.{System}
use Rattle.rn_binding.specs.declared.applications.Application.{Application}
use Rattle.rn_growing.specs.Grown.{Grown}
use Rattle.rn_looking.specs.Applying.{AreAppliedIn}
use Rattle.rn_looking.specs.Settling.{AreSettled}

-- So many of the first decisions are settled, and so many were before each decision.
pub record KeepsSettled (g : Grown) (settled : ℕ) (before : List ℕ) : Type 0 where
  pub so_far : AreSettled g.system g.decisions settled
  pub each : length before ≡ length g.decisions
  pub earlier : (k n : ℕ) → slice_get before k ≡ Some n →
      AreSettled g.system (take k g.decisions) n

-- The system is that of a binding that grows, and beside each decision stand its operator
-- applications.
pub record KeepsApplied (system : System) (g : Grown) (applications : List (List Application))
    : Type 0 where
  pub same : system ≡ g.system
  pub applied : AreAppliedIn g.system g.decisions applications
