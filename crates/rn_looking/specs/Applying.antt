-- The operator applications of the nodes that were entered, which stand beside the decisions.
use Rattle.std.specs.Prelude.{◌≡◌, ⊤, List, map}
use Rattle.std.specs.List.{AllZip}
use Rattle.rn_model.specs.declared.system.System.{System}
use Rattle.rn_growing.specs.declared.decision.Decision.{Decision}
use Rattle.rn_growing.specs.declared.decision.Decision.TheVariants.{Entered}
use Rattle.rn_growing.specs.Decisions.{transition_in}
use Rattle.rn_search.specs.Points.{holes_of}
use Rattle.rn_binding.specs.declared.applications.Application.{Application}
use Rattle.rn_binding.specs.link.Applications.{application_of}

-- These are the operator applications of the node that a decision enters. Of another decision
-- nothing is said.
abbrev pub AreApplied : System → Decision → List Application → Type 0
AreApplied system (Entered head caller) found =
    map application_of found ≡ holes_of (transition_in system head)
AreApplied system _ found = ⊤

-- those of each decision, in order
abbrev pub AreAppliedIn : System → List Decision → List (List Application) → Type 0
AreAppliedIn system ds applications = AllZip (AreApplied system) ds applications
