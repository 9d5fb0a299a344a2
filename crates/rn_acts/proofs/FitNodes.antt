-- In a good system, where the values of nodes have their variables' kinds, neither their arcs nor
-- their actions meet a value of a wrong kind, nor do their outputs after the actions.
use Rattle.std.proofs.Common.{◌≡◌, ℕ, List, [], ◌∷◌, get_or}
use Rattle.std.specs.Prelude.{All, Some}
use Rattle.std.specs.List.{AllByRecursion}
use Rattle.std.proofs.lemmas.List.Elements.{Contains-get_or, All-from_recursion}
use Rattle.std.proofs.lemmas.List.Elements.{recursion_from_All}
use Rattle.rn_value.specs.declared.value.Kind.{Kind}
use Rattle.rn_model.specs.declared.system.System.{System}
use Rattle.rn_model.specs.declared.system.Action.{Action}
use Rattle.rn_model.specs.declared.system.Action.TheVariants.{Set, Print}
use Rattle.rn_model.specs.declared.system.Transition.{Transition}
use Rattle.rn_model.specs.declared.binding.Node.{Node}
use Rattle.rn_model.specs.declared.binding.Binding.{Binding}
use Rattle.rn_model.specs.Systems.{transition_of, var_kind}
use Rattle.rn_model.specs.Evaluation.{Env}
use Rattle.rn_model.specs.Bindings.{IsNodeOf, env_of}
use Rattle.rn_model.specs.Firing.{Acts, acts_before, after_actions}
use Rattle.rn_model.specs.Good.{Good, IsGoodAction, action_expr}
use Rattle.rn_model.specs.ExpressionLaws.{HaveKinds, OperandsAreFit}
use Rattle.rn_model.proofs.AgreeingValues.{beside_kind}
use Rattle.rn_model.proofs.MarkingsOfRuns.{good_transition}
use Rattle.rn_model.proofs.OperandKinds.{operands_fit, actions_keep_kinds}
use Rattle.rn_calc.specs.OwnKinds.{HaveOwnKinds}
use Rattle.rn_calc.proofs.FitByKinds.{expr_fits, in_arcs}
use Rattle.rn_arcs.specs.FitInscriptions.{IsFitArc, IsFitNode, InscriptionsAreFit}
use Rattle.rn_acts.specs.link.Acting.{AreFitActions}
use Rattle.rn_acts.proofs.ActLemmas.{one_action}

module _ (kinds : ℕ → Kind) where
  action_fits : (action : Action) (env : Env) → HaveKinds kinds env → IsGoodAction kinds action →
      OperandsAreFit env (action_expr action)
  action_fits (Set x e) env have good = operands_fit kinds env have e (kinds x, good)
  action_fits (Print e) env have good = operands_fit kinds env have e good

  pub fit_actions : (actions : List Action) (acts : Acts) → HaveKinds kinds acts.env →
      AllByRecursion (IsGoodAction kinds) actions → AreFitActions actions acts
  fit_actions [] acts have good = tt
  fit_actions (action ∷ actions) acts have (good, others) = (
    action_fits action acts.env have good,
    λ next is.
        fit_actions actions next
        (actions_keep_kinds kinds (action ∷ []) acts next have
        one (one_action action [] acts next is)) others,
  )
    where
      one : All (IsGoodAction kinds) (action ∷ [])
      one = All-from_recursion (IsGoodAction kinds) (action ∷ []) (good, tt)

module _ (system : System) (node : Node) (good : Good system) (own : IsNodeOf system node) where
  abbrev t : Transition
  t = transition_of system node

  abbrev kinds : ℕ → Kind
  kinds = var_kind system node.net

  -- under values of their kinds, the inscriptions of a node's arcs
  arcs_fit : (env : Env) → HaveKinds (var_kind system node.net) env →
      All (IsFitArc env) (transition_of system node).arcs
  arcs_fit env have k d h =
      expr_fits system node.net node.transition env good own.net own.transition have
      (get_or t.arcs k d).inscription
      (in_arcs t (get_or t.arcs k d) (Contains-get_or t.arcs k d h))

  module _ (has : HaveOwnKinds system node) where
    have : HaveKinds (var_kind system node.net) (env_of system node)
    have = beside_kind kinds t.vars node.values has

    pub fit_node : IsFitNode system node
    fit_node = arcs_fit (env_of system node) have

    good_actions : All (IsGoodAction kinds) t.actions
    good_actions =
        let well = good_transition system node.net node.transition good own.net own.transition in
        well.kinds.actions

    pub fit_before : (step : ℕ) →
        AreFitActions (transition_of system node).actions (acts_before system step node)
    fit_before step =
        fit_actions kinds t.actions (acts_before system step node) have
        (recursion_from_All (IsGoodAction kinds) t.actions good_actions)

    pub fit_after : (step : ℕ) (after : Acts) →
        after_actions (transition_of system node).actions (acts_before system step node)
        ≡ Some after → All (IsFitArc after.env) (transition_of system node).arcs
    fit_after step after is =
        arcs_fit after.env
        (actions_keep_kinds kinds t.actions (acts_before system step node) after have good_actions is)

-- so the inscriptions of all nodes
pub fit_nodes : (system : System) (b : Binding) → Good system → All (IsNodeOf system) b.nodes →
    All (HaveOwnKinds system) b.nodes → InscriptionsAreFit system b
fit_nodes system b good own has k d h =
    fit_node system (get_or b.nodes k d) good (own k d h) (has k d h)
