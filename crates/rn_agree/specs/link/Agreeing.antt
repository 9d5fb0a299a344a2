-- What the parts of the code decide of a node and of its calls. This only connects the code to the
-- definitions.
use Rattle.std.specs.Prelude.{ℕ, ◌≡◌, ◌<◌, ◌≤◌, false, List, [], ◌∷◌, ◌++◌, length, Some, slice_get}
use Rattle.std.specs.Prelude.{All}
use Rattle.rn_value.specs.declared.value.InstRef.TheVariants.{New}
use Rattle.rn_value.specs.declared.value.Value.{Value}
use Rattle.rn_model.specs.declared.expr.Expr.{Expr}
use Rattle.rn_model.specs.declared.system.System.{System}
use Rattle.rn_model.specs.declared.system.Transition.{Transition}
use Rattle.rn_model.specs.declared.system.NetArc.{NetArc}
use Rattle.rn_model.specs.declared.system.Creation.{Creation}
use Rattle.rn_model.specs.declared.system.Downlink.{Downlink}
use Rattle.rn_model.specs.declared.binding.Node.{Node}
use Rattle.rn_model.specs.declared.binding.Binding.{Binding}
use Rattle.rn_model.specs.Limits.{most_nodes}
use Rattle.rn_model.specs.Lists.{HaveOneValue, value_beside}
use Rattle.rn_model.specs.Systems.{net_at, transition_of, awaits_action}
use Rattle.rn_model.specs.Systems.{uplink_args}
use Rattle.rn_model.specs.Evaluation.{Env, worth, IsTrueUnder}
use Rattle.rn_model.specs.Bindings.{IsNodeOf, node_at, env_of}
use Rattle.rn_model.specs.Agreement.{CallAgrees}
use Rattle.rn_model.specs.ExpressionLaws.{OperandsAreFit}
use Rattle.rn_calc.specs.FitComparisons.{ComparisonsAreFit}
use Rattle.rn_calc.specs.OwnKinds.{HaveOwnKinds}

-- a node of the system, with variables of its net
pub record IsReadable (system : System) (node : Node) : Type 0 where
  pub own : IsNodeOf system node
  pub in_range : All (λ x. x < length (net_at system node.net).vars)
      (transition_of system node).vars
  pub few : length (transition_of system node).downlinks ≤ most_nodes

-- both sides of an equality have one value
abbrev pub IsEqual : Env → Expr × Expr → Type 0
IsEqual env e = HaveOneValue (worth e.0 env) (worth e.1 env)

-- the variable of each creation is the instance that it makes, in a node on this path
abbrev pub AreCreated : List ℕ → Env → List Creation → Type 0
AreCreated path env creations = (j : ℕ) (c : Creation) → slice_get creations j ≡ Some c →
    value_beside env.pairs c.var ≡ Some (Value.Inst (New path j))

-- an arc's inscription has a value, unless it awaits an action
abbrev pub ArcHasValue : Transition → Env → NetArc → Type 0
ArcHasValue t env arc =
    awaits_action t arc ≡ false → (v : Value) × (worth arc.inscription env ≡ Some v)

-- the inscriptions of a transition hold in a node on this path, under these values
pub record HoldUnder (t : Transition) (path : List ℕ) (env : Env) : Type 0 where
  pub equalities : All (IsEqual env) t.equalities
  pub creations : AreCreated path env t.creations
  pub guards : All (IsTrueUnder env) t.guards
  pub arcs : All (ArcHasValue t env) t.arcs

-- what a node's own inscriptions ask, but for the kinds of what isn't a variable
pub record NodeHolds (system : System) (node : Node) : Type 0 where
  pub kinds : HaveOwnKinds system node
  pub inscriptions : HoldUnder (transition_of system node) node.path (env_of system node)

-- the operands in both sides of an equality are fit
abbrev pub AreFitSides : Env → Expr × Expr → Type 0
AreFitSides env e = OperandsAreFit env e.0 × OperandsAreFit env e.1

-- those in an arc's inscription
abbrev pub IsFitArc : Env → NetArc → Type 0
IsFitArc env arc = OperandsAreFit env arc.inscription

-- those in the target and the arguments of a downlink
pub record IsFitCall (env : Env) (downlink : Downlink) : Type 0 where
  pub target : OperandsAreFit env downlink.target
  pub args : All (OperandsAreFit env) downlink.args

-- Nothing that is evaluated before the actions of a transition meets a value of a wrong kind.
pub record IsFitAt (env : Env) (t : Transition) : Type 0 where
  pub equalities : All (AreFitSides env) t.equalities
  pub guards : All (ComparisonsAreFit env) t.guards
  pub arcs : All (IsFitArc env) t.arcs
  pub uplink : All (OperandsAreFit env) (uplink_args t)
  pub downlinks : All (IsFitCall env) t.downlinks

-- so at the values of a node
abbrev pub IsFitNode : System → Node → Type 0
IsFitNode system node = IsFitAt (env_of system node) (transition_of system node)

-- the call by a downlink agrees with the child that is there
abbrev pub CallAgreesAt : System → Binding → Node → ℕ → Downlink → Type 0
CallAgreesAt system b caller i downlink =
    (node : Node) → node_at b (caller.path ++ i ∷ []) ≡ Some node
    → CallAgrees system caller downlink node

-- each call of this caller agrees
abbrev pub CallsAgree : System → Binding → Node → Type 0
CallsAgree system b caller = (i : ℕ) (downlink : Downlink) →
    slice_get (transition_of system caller).downlinks i ≡ Some downlink →
    CallAgreesAt system b caller i downlink

-- all nodes and all calls
pub record AgreesInParts (system : System) (b : Binding) : Type 0 where
  pub nodes : All (NodeHolds system) b.nodes
  pub calls : All (CallsAgree system b) b.nodes
