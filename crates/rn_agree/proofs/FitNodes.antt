-- In a good system, where the values of a node have their variables' kinds, nothing that is
-- evaluated there meets a value of a wrong kind.
use Rattle.std.proofs.Common.{◌≡◌, ℕ, suc, ◌<◌, List, [], ◌∷◌, length, get_or, refl, subst, arith}
use Rattle.std.specs.Prelude.{All, Contains, slice_get, Some}
use Rattle.std.proofs.lemmas.List.Elements.{Contains-get_or, All-contains}
use Rattle.rn_model.specs.declared.expr.Expr.{Expr}
use Rattle.rn_model.specs.declared.system.System.{System}
use Rattle.rn_model.specs.declared.system.Downlink.{Downlink}
use Rattle.rn_model.specs.declared.system.Transition.{Transition}
use Rattle.rn_model.specs.declared.binding.Node.{Node}
use Rattle.rn_model.specs.Systems.{transition_of, uplink_args, var_kind}
use Rattle.rn_model.specs.Evaluation.{Env}
use Rattle.rn_model.specs.Bindings.{env_of}
use Rattle.rn_model.specs.Good.{Good, all_exprs}
use Rattle.rn_model.specs.ExpressionLaws.{HaveKinds, OperandsAreFit}
use Rattle.rn_model.proofs.AgreeingValues.{beside_kind}
use Rattle.rn_calc.proofs.FitByKinds.{expr_fits, guard_fits, in_equalities, in_uplink}
use Rattle.rn_calc.proofs.FitByKinds.{in_downlinks, in_arcs}
use Rattle.rn_calc.specs.OwnKinds.{HaveOwnKinds}
use Rattle.rn_agree.specs.link.Agreeing.{IsFitAt, IsFitCall, IsFitNode, IsReadable}
use Rattle.rn_agree.specs.link.Agreeing.{NodeHolds}

-- what holds of each expression in a list holds of each at its index
module _ (env : Env) where
  each_fits : (es : List Expr) → ((e : Expr) → Contains es e → OperandsAreFit env e) →
      All (OperandsAreFit env) es
  each_fits es fit k d h = fit (get_or es k d) (Contains-get_or es k d h)

module _ (system : System) (node : Node) (good : Good system)
    (readable : IsReadable system node) (kinds : HaveOwnKinds system node) where
  abbrev t : Transition
  t = transition_of system node

  abbrev env : Env
  env = env_of system node

  have : HaveKinds (var_kind system node.net) (env_of system node)
  have = beside_kind (var_kind system node.net) t.vars node.values kinds

  fit : (e : Expr) → Contains (all_exprs (transition_of system node)) e →
      OperandsAreFit (env_of system node) e
  fit = expr_fits system node.net node.transition env good readable.own.net
      readable.own.transition have

  call : (d : Downlink) → Contains t.downlinks d → IsFitCall (env_of system node) d
  call d has = record {
    target = fit d.target (in_downlinks t d has d.target (0, omega arith, refl));
    args = each_fits env d.args (λ e there.
        fit e (in_downlinks t d has e (later d.target d.args e there)));
  }
    where
      later : (x : Expr) (es : List Expr) (e : Expr) → Contains es e → Contains (x ∷ es) e
      later x es e (k, h, is) = (suc k, omega (arith, h), is)

  pub fit_node : IsFitNode system node
  fit_node = record {
    equalities = λ k d h.
        let s = get_or t.equalities k d in
        let has = Contains-get_or t.equalities k d h in (
          fit s.0 (in_equalities t s has s.0 (0, omega arith, refl)),
          fit s.1 (in_equalities t s has s.1 (1, omega arith, refl)),
        );
    guards = λ k d h.
        guard_fits system node.net node.transition env good readable.own.net
        readable.own.transition have (get_or t.guards k d) (Contains-get_or t.guards k d h);
    arcs = λ k d h.
        let arc = get_or t.arcs k d in
        fit arc.inscription (in_arcs t arc (Contains-get_or t.arcs k d h));
    uplink = each_fits env (uplink_args t) (λ e there. fit e (in_uplink t e there));
    downlinks = λ k d h.
        call (get_or t.downlinks k d) (Contains-get_or t.downlinks k d h);
  }

-- where all nodes hold, nothing at them does
pub fit_nodes : (system : System) (nodes : List Node) → Good system →
    All (IsReadable system) nodes → All (NodeHolds system) nodes → All (IsFitNode system) nodes
fit_nodes system nodes good readable hold k d h =
    fit_node system (get_or nodes k d) good (readable k d h) (hold k d h).kinds
