-- Actions one by one, and nodes one by one.
use Rattle.std.proofs.Common.{◌≡◌, ℕ, Bool, true, false, List, [], ◌∷◌}
use Rattle.std.proofs.Common.{refl, sym, ap, ◌∙◌, append_assoc, subst}
use Rattle.std.specs.Prelude.{Option, Some, None, option_map, option_and_then, if◌then◌else◌}
use Rattle.std.specs.Prelude.{flat_map, IfSome}
use Rattle.std.proofs.lemmas.Option.{same_Some}
use Rattle.rn_value.specs.declared.value.InstRef.TheVariants.{Old}
use Rattle.rn_value.specs.declared.value.Value.{Value}
use Rattle.rn_model.specs.declared.system.System.{System}
use Rattle.rn_model.specs.declared.system.Action.{Action}
use Rattle.rn_model.specs.declared.system.Action.TheVariants.{Set, Print}
use Rattle.rn_model.specs.declared.binding.Node.{Node}
use Rattle.rn_model.specs.Demands.{Reading, asked_at, puts}
use Rattle.rn_model.specs.Evaluation.{worth}
use Rattle.rn_model.specs.Firing.{Acts, Effects, with_set, with_out, after_actions, acts_before}
use Rattle.rn_model.specs.Firing.{outputs_defined, node_acts, effects_with, all_effects}
use Rattle.rn_model.specs.Systems.{transition_of}
use Rattle.rn_table.specs.Changes.{values_at}
use Rattle.rn_acts.specs.Acted.{ArePut}
use Rattle.rn_acts.specs.link.Acted.{node_rows, nothing, with_acts, with_node, with_effects}
use Rattle.rn_acts.specs.link.Acting.{action_of}
use Rattle.rn_acts.specs.declared.acts.Acted.{Acted}
use Rattle.rn_acts.proofs.RowLemmas.{OwnThis, rows_are}

-- one action, and then the others
pub one_action : (action : Action) (actions : List Action) (acts next : Acts) →
    action_of action acts ≡ Some next →
    after_actions (action ∷ actions) acts ≡ after_actions actions next
one_action (Set x e) actions acts next is = by_value (worth e acts.env) is
  where
    by_value : (o : Option Value) → option_map (λ v. with_set x v acts) o ≡ Some next →
        option_and_then (λ v. after_actions actions (with_set x v acts)) o
        ≡ after_actions actions next
    by_value None is = absurd (let no : ⊥ = cc in no)
    by_value (Some v) is = ap (after_actions actions) (same_Some (with_set x v acts) next is)
one_action (Print e) actions acts next is = by_value (worth e acts.env) is
  where
    by_value : (o : Option Value) → option_map (λ v. with_out v acts) o ≡ Some next →
        option_and_then (λ v. after_actions actions (with_out v acts)) o
        ≡ after_actions actions next
    by_value None is = absurd (let no : ⊥ = cc in no)
    by_value (Some v) is = ap (after_actions actions) (same_Some (with_out v acts) next is)

-- no action changes the instance
keeps_this : (actions : List Action) (so_far acts : Acts) →
    after_actions actions so_far ≡ Some acts → acts.env.this ≡ so_far.env.this
keeps_this [] so_far acts e = ap (λ (a : Acts). a.env.this) (sym (same_Some so_far acts e))
keeps_this (Set x ex ∷ actions) so_far acts e =
    elim (worth ex so_far.env) as (λ o.
    option_and_then (λ v. after_actions actions (with_set x v so_far)) o ≡ Some acts →
    acts.env.this ≡ so_far.env.this) [
      | None ↦ λ e. absurd (let no : ⊥ = cc in no)
      | Some v ↦ λ e. keeps_this actions (with_set x v so_far) acts e
    ] e
keeps_this (Print ex ∷ actions) so_far acts e =
    elim (worth ex so_far.env) as (λ o.
    option_and_then (λ v. after_actions actions (with_out v so_far)) o ≡ Some acts →
    acts.env.this ≡ so_far.env.this) [
      | None ↦ λ e. absurd (let no : ⊥ = cc in no)
      | Some v ↦ λ e. keeps_this actions (with_out v so_far) acts e
    ] e

module _ (system : System) (step : ℕ) where
  by_outputs : (node : Node) (after acts : Acts) (defined : Bool) →
      after.env.this ≡ node.inst → (if defined then Some after else None) ≡ Some acts →
      acts.env.this ≡ node.inst
  by_outputs node after acts true own e =
      ap (λ (a : Acts). a.env.this) (sym (same_Some after acts e)) ∙ own
  by_outputs node after acts false own e = absurd (let no : ⊥ = cc in no)

  by_actions : (node : Node) (acts : Acts) (o : Option Acts) →
      after_actions (transition_of system node).actions (acts_before system step node) ≡ o →
      option_and_then (λ (a : Acts). if outputs_defined system node a.env then Some a else None) o
      ≡ Some acts → acts.env.this ≡ node.inst
  by_actions node acts None is e = absurd (let no : ⊥ = cc in no)
  by_actions node acts (Some after) is e =
      by_outputs node after acts (outputs_defined system node after.env)
      (keeps_this (transition_of system node).actions (acts_before system step node) after is) e

  -- so each node reads under its own instance
  node_own : (node : Node) (acts : Acts) → node_acts system step node ≡ Some acts →
      acts.env.this ≡ node.inst
  node_own node acts e =
      by_actions node acts
      (after_actions (transition_of system node).actions (acts_before system step node)) refl e

  more_own : (node : Node) (effects : Effects) (o : Option Acts) (p : Option Effects) →
      ((acts : Acts) → o ≡ Some acts → acts.env.this ≡ node.inst) →
      ((fx : Effects) → p ≡ Some fx → OwnThis fx.read) →
      option_and_then (λ acts. option_map (effects_with node acts) p) o ≡ Some effects →
      OwnThis effects.read
  more_own node effects None p own others e = absurd (let no : ⊥ = cc in no)
  more_own node effects (Some acts) None own others e = absurd (let no : ⊥ = cc in no)
  more_own node effects (Some acts) (Some fx) own others e =
      subst (λ (g : Effects). OwnThis g.read) (same_Some (effects_with node acts fx) effects e)
      (own acts refl, others fx refl)

  pub all_own : (nodes : List Node) (effects : Effects) →
      all_effects system step nodes ≡ Some effects → OwnThis effects.read
  all_own [] effects e =
      subst (λ (g : Effects). OwnThis g.read) (same_Some _ effects e) tt
  all_own (node ∷ nodes) effects e =
      more_own node effects (node_acts system step node) (all_effects system step nodes)
      (node_own node) (all_own nodes) e

  by_node : (acted : Acted) (node : Node) (o : Option Acts) (p : Option Effects) →
      option_map (with_effects system acted)
      (option_and_then (λ acts. option_map (effects_with node acts) p) o)
      ≡ option_and_then (λ a. option_map (with_effects system a) p)
      (option_map (with_acts system node acted) o)
  by_node acted node None p = refl
  by_node acted node (Some acts) None = refl
  by_node acted node (Some acts) (Some fx) =
      let rows = flat_map (λ (r : Reading). node_rows system r.node r.env) fx.read in
      let outs = append_assoc acted.outs acts.outs fx.outs in
      let put = append_assoc acted.put (node_rows system node acts.env) rows in
      sym (λ i. let whole : Acted = record { outs = outs i; put = put i } in Some whole)

  -- one node, and then the others
  pub one_node : (acted : Acted) (node : Node) (nodes : List Node) →
      option_map (with_effects system acted) (all_effects system step (node ∷ nodes))
      ≡ option_and_then
      (λ a. option_map (with_effects system a) (all_effects system step nodes))
      (with_node system step acted node)
  one_node acted node nodes =
      by_node acted node (node_acts system step node) (all_effects system step nodes)

  by_effects : (nodes : List Node) (acted : Option Acted) (o : Option Effects) →
      all_effects system step nodes ≡ o →
      acted ≡ option_map (with_effects system nothing) o →
      IfSome acted (λ a. (effects : Effects) → all_effects system step nodes ≡ Some effects →
      ArePut system effects a.put)
  by_effects nodes None o are is = tt
  by_effects nodes (Some a) None are is = absurd (let no : ⊥ = cc in no)
  by_effects nodes (Some a) (Some fx) are is = λ effects e n place.
      let whole : a ≡ with_effects system nothing fx =
      same_Some a (with_effects system nothing fx) is in
      let one : fx ≡ effects = same_Some fx effects (sym are ∙ e) in
      ap (λ (b : Acted). values_at b.put n place) whole
      ∙ rows_are n place system fx.read (all_own nodes fx are)
      ∙ ap (λ (g : Effects). asked_at puts system g.read (Old n) place) one

  -- what the nodes put, where their actions and outputs have values
  pub rows_put : (nodes : List Node) (acted : Option Acted) →
      acted ≡ option_map (with_effects system nothing) (all_effects system step nodes) →
      IfSome acted (λ a. (effects : Effects) → all_effects system step nodes ≡ Some effects →
      ArePut system effects a.put)
  rows_put nodes acted is = by_effects nodes acted (all_effects system step nodes) refl is
