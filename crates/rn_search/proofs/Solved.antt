-- What is made of decisions of which none is left is the only solution, or there is none.
use Rattle.std.proofs.Common.{◌≡◌, List, subst, sym}
use Rattle.std.specs.Prelude.{All, Contains}
use Rattle.std.proofs.lemmas.List.Elements.{All-contains_itself}
use Rattle.rn_model.specs.declared.system.System.{System}
use Rattle.rn_model.specs.declared.binding.Binding.{Binding}
use Rattle.rn_model.specs.Systems.{transition_of}
use Rattle.rn_model.proofs.Rounds.{all_more}
use Rattle.rn_growing.specs.declared.decision.Decision.{Decision}
use Rattle.rn_growing.specs.Decisions.{head_of, transition_in}
use Rattle.rn_growing.specs.Turns.{IsVarForced}
use Rattle.rn_search.specs.Sought.{Sought, Leads}
use Rattle.rn_search.specs.Ending.{AreForced, IsMadeOf}
use Rattle.rn_search.specs.Solving.{IsWhole, Passes, WholeIsOnly}
use Rattle.rn_search.proofs.Built.{made_follows}
use Rattle.rn_search.proofs.Ends.{found_is_so}
use Rattle.rn_search.proofs.OneBinding.{leading_is_made, made_is_one}
use Rattle.rn_search.proofs.Sound.{sound_are_right}

made_forces : (system : System) (ds : List Decision) (b : Binding) → IsMadeOf system ds b →
    AreForced system ds
made_forces system ds b made head entered =
    let n = made.nodes head entered in
    let vars = (transition_of system n.0).vars in
    let forced : All (IsVarForced system ds (head_of n.0)) vars =
    all_more (Contains vars) (IsVarForced system ds (head_of n.0)) vars
    (λ x var. let v = made.values n.0 x n.1 var in (v.0, v.2)) (All-contains_itself vars) in
    subst (λ h. All (IsVarForced system ds h) (transition_in system h).vars) (sym n.2) forced

module _ (sought : Sought) (ds : List Decision) (b : Binding) (whole : IsWhole sought ds b) where
  -- whatever they lead to is this binding
  the_same : (c : Binding) → Leads sought ds c → c ≡ b
  the_same c leads =
      made_is_one sought.system ds c b whole.good whole.solvable
      (leading_is_made sought ds c whole.sound.turns whole.some whole.done leads) whole.made

  they_lead : Passes sought b → Leads sought ds b
  they_lead passes =
      let system = sought.system in
      let turns = whole.sound.turns in
      let right = (sound_are_right system sought.marking sought.depth ds whole.sound).1 in
      found_is_so sought ds b turns whole.some whole.done (made_forces system ds b whole.made)
      passes.shape passes.agrees passes.fits whole.starts
      (made_follows system ds b sought.depth whole.good turns whole.done right whole.solvable
      passes.shape passes.agrees whole.made)

  it_passes : Leads sought ds b → Passes sought b
  it_passes leads = record {
    shape = leads.enabled.shape;
    agrees = leads.enabled.agrees;
    fits = leads.enabled.fits;
  }

-- a whole binding is the only one to which the decisions lead, or they lead to none
pub whole_is_only : WholeIsOnly
whole_is_only sought ds b whole = (
  λ passes. (they_lead sought ds b whole passes, the_same sought ds b whole),
  λ never c leads.
      never (it_passes sought ds b whole
      (subst (Leads sought ds) (the_same sought ds b whole c leads) leads)),
)
