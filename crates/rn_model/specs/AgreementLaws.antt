-- Laws over bindings that agree, in good systems. Each is the contract of a function that does
-- nothing.
use Rattle.std.specs.Prelude.{ℕ, ℤ, ◌≡◌, ◌<◌, not, ◌&&◌, List, ◌++◌, length, map, filter, Some}
use Rattle.std.specs.Prelude.{Contains}
use Rattle.rn_value.specs.Kinds.{HasKind}
use Rattle.rn_value.specs.declared.value.Kind.{Kind}
use Rattle.rn_value.specs.declared.value.Value.{Value}
use Rattle.rn_model.specs.declared.expr.CompareKind.{CompareKind}
use Rattle.rn_model.specs.declared.expr.CompareKind.TheVariants.{Same, Differs}
use Rattle.rn_model.specs.declared.expr.Expr.{Expr}
use Rattle.rn_model.specs.declared.expr.Cond.{Cond}
use Rattle.rn_model.specs.declared.system.System.{System}
use Rattle.rn_model.specs.declared.system.Transition.{Transition}
use Rattle.rn_model.specs.declared.binding.Node.{Node}
use Rattle.rn_model.specs.declared.binding.Binding.{Binding}
use Rattle.rn_model.specs.Systems.{net_at, transition_at, transition_of, var_kind, is_output}
use Rattle.rn_model.specs.Systems.{awaits_action}
use Rattle.rn_model.specs.Kinds.{HasExprKind}
use Rattle.rn_model.specs.Evaluation.{Env, worth}
use Rattle.rn_model.specs.Bindings.{Shape, env_of}
use Rattle.rn_model.specs.Agreement.{Agrees, HasValueOf}
use Rattle.rn_model.specs.Good.{Good, Comparison, comparisons_in, searched_exprs, all_exprs}
use Rattle.rn_model.specs.ExpressionLaws.{OperandsAreFit}

-- in a good system each expression of a transition has a kind
abbrev pub ExpressionsHaveKinds : Type 0
ExpressionsHaveKinds = (system : System) (n t : ℕ) (e : Expr) → Good system →
    n < length system.nets → t < length (net_at system n).transitions →
    Contains (all_exprs (transition_at system n t)) e →
    (kind : Kind) × HasExprKind (var_kind system n) e kind

-- where a binding agrees, each operand in an expression of a node is fit
abbrev pub AgreeingOperandsAreFit : Type 0
AgreeingOperandsAreFit = (system : System) (b : Binding) (depth : ℕ) (node : Node) (e : Expr) →
    Good system → Shape system b depth → Agrees system b → Contains b.nodes node →
    Contains (all_exprs (transition_of system node)) e → OperandsAreFit (env_of system node) e

-- the expressions of a transition but those of actions and of outputs that hold an action variable
abbrev pub bound_exprs : Transition → List Expr
bound_exprs t =
    searched_exprs t
    ++ map (λ arc. arc.inscription)
    (filter (λ arc. is_output arc.kind && not (awaits_action t arc)) t.arcs)

-- where a binding agrees, each of these has a value, and of each kind that it has
abbrev pub InscriptionsHaveValues : Type 0
InscriptionsHaveValues = (system : System) (b : Binding) (depth : ℕ) (node : Node) (e : Expr) →
    Good system → Shape system b depth → Agrees system b → Contains b.nodes node →
    Contains (bound_exprs (transition_of system node)) e →
    ((v : Value) × (worth e (env_of system node) ≡ Some v))
    × ((kind : Kind) → HasExprKind (var_kind system node.net) e kind →
    HasValueOf (env_of system node) e kind)

-- values that may be compared: `==` and `!=` compare those of one kind, and the others whole
-- numbers
abbrev pub MayCompare : CompareKind → Value → Value → Type 0
MayCompare Same v w = (kind : Kind) × HasKind v kind × HasKind w kind
MayCompare Differs v w = (kind : Kind) × HasKind v kind × HasKind w kind
MayCompare _ v w = (x y : ℤ) × (v ≡ Value.Int x) × (w ≡ Value.Int y)

-- the sides of a comparison have values that it may compare
abbrev pub ComparesValues : Env → Comparison → Type 0
ComparesValues env c =
    (v w : Value) × (worth c.left env ≡ Some v) × (worth c.right env ≡ Some w)
    × MayCompare c.kind v w

-- where a binding agrees, each comparison of a guard compares what it may
abbrev pub GuardsCompareValues : Type 0
GuardsCompareValues = (system : System) (b : Binding) (depth : ℕ) (node : Node) (guard : Cond)
    (c : Comparison) → Good system → Shape system b depth → Agrees system b →
    Contains b.nodes node → Contains (transition_of system node).guards guard →
    Contains (comparisons_in guard) c → ComparesValues (env_of system node) c
