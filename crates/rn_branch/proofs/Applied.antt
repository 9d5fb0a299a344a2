-- The operator applications beside decisions, as these come and are taken back.
use Rattle.std.proofs.Common.{◌≡◌, ℕ, List, [], ◌∷◌, ◌++◌, get_or, map, take}
use Rattle.std.proofs.Common.{◌∙◌, ap, sym, subst}
use Rattle.std.specs.Prelude.{option_map, unwrap_or}
use Rattle.rn_model.specs.declared.system.System.{System}
use Rattle.rn_growing.specs.declared.decision.Decision.{Decision}
use Rattle.rn_growing.specs.Decisions.{transition_in}
use Rattle.rn_growing.specs.Grown.{Grown, first_decisions, with_decision}
use Rattle.rn_search.specs.Points.{holes_of, node_of, node_on}
use Rattle.rn_search.specs.Sought.{Sought}
use Rattle.rn_binding.specs.declared.applications.Application.{Application}
use Rattle.rn_binding.specs.link.Applications.{application_of}
use Rattle.rn_looking.specs.Applying.{AreApplied, AreAppliedIn}
use Rattle.rn_branch.specs.GoingOn.{IsEntryAt}
use Rattle.rn_branch.specs.Keeping.{KeepsApplied}
use Rattle.rn_looking.specs.Branches.{IsBranchOf}
use Rattle.rn_branch.specs.Keeping.{KeepsSettled}
use Rattle.rn_looking.proofs.AppliedAt.{applied_at}
use Rattle.rn_looking.proofs.ListsBeside.{zip_last, zip_take}

pub applied_more : (system : System) (g : Grown) (d : Decision)
    (applications : List (List Application)) (found : List Application) →
    KeepsApplied system g applications → AreApplied system d found →
    KeepsApplied system (with_decision g d) (applications ++ found ∷ [])
applied_more system g d applications found keeps are = record {
  same = keeps.same;
  applied = zip_last (AreApplied g.system) g.decisions applications d found keeps.applied
      (subst (λ s. AreApplied s d found) keeps.same are);
}

pub applied_fewer : (system : System) (g : Grown) (count : ℕ)
    (applications : List (List Application)) → KeepsApplied system g applications →
    KeepsApplied system (first_decisions count g) (take count applications)
applied_fewer system g count applications keeps = record {
  same = keeps.same;
  applied = zip_take (AreApplied g.system) count g.decisions applications keeps.applied;
}

-- those of the node of such a decision
pub applied_on : (sought : Sought) (ds : List Decision) (applications : List (List Application))
    (k : ℕ) → AreAppliedIn sought.system ds applications → IsEntryAt ds k →
    (found : List Application) → found ≡ get_or applications k found →
    map application_of found ≡ holes_of (transition_in sought.system (node_of sought ds k))
applied_on sought ds applications k applied (head, (caller, at)) found is =
    let here : node_of sought ds k ≡ head =
    ap (λ o. unwrap_or (option_map node_on o) sought.start) at in
    applied_at sought.system ds applications k head caller applied at found is
    ∙ ap (λ h. holes_of (transition_in sought.system h)) (sym here)

-- They stand beside the decisions of a branch as it is seen from outside,
pub applied_outside : (sought : Sought) (inside self : Grown) (ds : List Decision)
    (applications : List (List Application)) → inside ≡ self → IsBranchOf sought self →
    ds ≡ inside.decisions → AreAppliedIn inside.system inside.decisions applications →
    AreAppliedIn sought.system ds applications
applied_outside sought inside self ds applications view branch same applied =
    subst (λ es. AreAppliedIn sought.system es applications) (sym same)
    (subst (λ s. AreAppliedIn s inside.decisions applications)
    (ap (λ (g : Grown). g.system) view ∙ branch.system) applied)

-- and all that is kept stays so where nothing changes.
pub keeps_same : (system : System) (g h : Grown) (settled : ℕ) (before after : List ℕ)
    (applications others : List (List Application)) → h ≡ g → after ≡ before →
    others ≡ applications →
    KeepsSettled g settled before × KeepsApplied system g applications →
    KeepsSettled h settled after × KeepsApplied system h others
keeps_same system g h settled before after applications others same is are keeps = (
  subst (KeepsSettled h settled) (sym is)
      (subst (λ f. KeepsSettled f settled before) (sym same) keeps.0),
  subst (KeepsApplied system h) (sym are)
      (subst (λ f. KeepsApplied system f applications) (sym same) keeps.1),
)
