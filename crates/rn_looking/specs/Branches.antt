-- What a branch of a search keeps.
use Rattle.std.specs.Prelude.{ℕ, ◌≡◌, Option, Some, slice_get}
use Rattle.rn_model.specs.declared.system.Transition.{Transition}
use Rattle.rn_model.specs.Good.{Good}
use Rattle.rn_search.specs.Problems.{HasFitTokens}
use Rattle.rn_growing.specs.declared.decision.Head.{Head}
use Rattle.rn_growing.specs.declared.decision.Caller.{Caller}
use Rattle.rn_growing.specs.declared.decision.Decision.TheVariants.{Entered}
use Rattle.rn_growing.specs.Decisions.{transition_in}
use Rattle.rn_growing.specs.Equations.{IsSolvable}
use Rattle.rn_growing.specs.Grown.{Grown}
use Rattle.rn_search.specs.Sought.{Sought}
use Rattle.rn_search.specs.Points.{node_on}
use Rattle.rn_search.specs.Standing.{AreSound}
use Rattle.rn_growing.specs.declared.decision.Decision.{Decision}

-- A binding that grows is a branch of the search for what is sought: its decisions are sound, can be
-- satisfied, and begin with the start.
pub record IsBranchOf (sought : Sought) (g : Grown) : Type 0 where
  pub system : g.system ≡ sought.system
  pub sound : AreSound sought.system sought.marking sought.depth g.decisions
  pub solvable : IsSolvable sought.system g.decisions
  pub start : (d : Decision) → slice_get g.decisions 0 ≡ Some d → node_on d ≡ sought.start

-- a node of a branch that is looked at: which decision entered it, and its transition
pub record IsLookedAt (sought : Sought) (g : Grown) (node : ℕ) (head : Head) (t : Transition)
    : Type 0 where
  pub branch : IsBranchOf sought g
  pub good : Good sought.system
  pub tokens : HasFitTokens sought.system sought.marking
  pub caller : Option Caller
  pub at : slice_get g.decisions node ≡ Some (Entered head caller)
  pub transition : t ≡ transition_in sought.system head
