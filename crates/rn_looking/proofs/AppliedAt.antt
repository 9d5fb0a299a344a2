-- The operator applications of the node that a decision at an index enters.
use Rattle.std.proofs.Common.{◌≡◌, ℕ, ◌<◌, List, get_or, length, map, arith}
use Rattle.std.specs.Prelude.{Option, Some, slice_get}
use Rattle.std.proofs.lemmas.Option.{slice_get_within}
use Rattle.rn_model.specs.declared.system.System.{System}
use Rattle.rn_growing.specs.declared.decision.Head.{Head}
use Rattle.rn_growing.specs.declared.decision.Caller.{Caller}
use Rattle.rn_growing.specs.declared.decision.Decision.{Decision}
use Rattle.rn_growing.specs.declared.decision.Decision.TheVariants.{Entered}
use Rattle.rn_growing.specs.Decisions.{transition_in}
use Rattle.rn_growing.proofs.Growth.{stands_at}
use Rattle.rn_search.specs.Points.{holes_of}
use Rattle.rn_binding.specs.declared.applications.Application.{Application}
use Rattle.rn_binding.specs.link.Applications.{application_of}
use Rattle.rn_looking.specs.Applying.{AreApplied, AreAppliedIn}
use Rattle.rn_looking.proofs.ListsBeside.{zip_at, zip_lengths}

module _ (system : System) (ds : List Decision) (applications : List (List Application)) (k : ℕ)
    (head : Head) (caller : Option Caller) (applied : AreAppliedIn system ds applications)
    (at : slice_get ds k ≡ Some (Entered head caller)) where
  -- there are applications at that index
  pub applied_within : k < length applications
  applied_within =
      let low = slice_get_within ds k (Entered head caller) at in
      omega (arith, low, zip_lengths (AreApplied system) ds applications applied)

  -- and they are those of the node's transition
  pub applied_at : (found : List Application) → found ≡ get_or applications k found →
      map application_of found ≡ holes_of (transition_in system head)
  applied_at found is =
      zip_at (AreApplied system) ds applications k (Entered head caller) found applied at
      (stands_at applications k found applied_within is)
