-- Where a binding agrees in a good system, its inscriptions meet no value of a wrong kind. Then
-- those of each of its nodes meet none, and each arc of a node has such an inscription.
use Rattle.std.proofs.Common.{◌≡◌, ◌∙◌, ◌<◌, ℕ, List, length, get_or, subst, sym, ap}
use Rattle.std.specs.Prelude.{Contains}
use Rattle.std.proofs.lemmas.List.Elements.{All-contains, Contains-get_or}
use Rattle.rn_model.specs.declared.system.System.{System}
use Rattle.rn_model.specs.declared.system.NetArc.{NetArc}
use Rattle.rn_model.specs.declared.system.Transition.{Transition}
use Rattle.rn_model.specs.declared.binding.Node.{Node}
use Rattle.rn_model.specs.declared.binding.Binding.{Binding}
use Rattle.rn_model.specs.Agreement.{Agrees}
use Rattle.rn_model.specs.Bindings.{Shape, env_of}
use Rattle.rn_model.specs.Evaluation.{Env}
use Rattle.rn_model.specs.Good.{Good}
use Rattle.rn_model.specs.Systems.{transition_of}
use Rattle.rn_model.proofs.AgreeingValues.{node_operands}
use Rattle.rn_calc.proofs.FitByKinds.{in_arcs}
use Rattle.rn_arcs.specs.FitInscriptions.{InscriptionsAreFit, IsFitArc, IsFitNode}

pub agreeing_fit : (system : System) (b : Binding) (depth : ℕ) → Good system →
    Shape system b depth → Agrees system b → InscriptionsAreFit system b
agreeing_fit system b depth good shape agrees k d h i e low =
    let node = get_or b.nodes k d in
    let t = transition_of system node in
    let arc = get_or t.arcs i e in
    node_operands system b depth node good shape agrees (Contains-get_or b.nodes k d h)
    arc.inscription (in_arcs t arc (Contains-get_or t.arcs i e low))

-- one node of these
pub fit_at : (system : System) (b : Binding) (nodes : List Node) (node : Node) (i : ℕ) →
    InscriptionsAreFit system b → nodes ≡ b.nodes → i < length nodes →
    node ≡ get_or nodes i node → IsFitNode system node
fit_at system b nodes node i fit are low is =
    All-contains (IsFitNode system) b.nodes node fit
    (subst (λ ns. Contains ns node) are (i, low, sym is))

-- one arc of a node, under what the node is read as
pub fit_on : (system : System) (node : Node) (t : Transition) (env : Env) (arcs : List NetArc)
    (arc : NetArc) (i : ℕ) → IsFitNode system node → t ≡ transition_of system node →
    env ≡ env_of system node → arcs ≡ t.arcs → i < length arcs → arc ≡ get_or arcs i arc →
    IsFitArc env arc
fit_on system node t env arcs arc i fit found same are low is =
    subst (λ other. IsFitArc other arc) (sym same)
    (All-contains (IsFitArc (env_of system node)) (transition_of system node).arcs arc fit
    (subst (λ others. Contains others arc) (are ∙ ap (λ t. t.arcs) found) (i, low, sym is)))
