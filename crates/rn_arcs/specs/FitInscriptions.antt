-- Inscriptions that meet no value of a wrong kind.
use Rattle.std.specs.Prelude.{All}
use Rattle.rn_model.specs.declared.system.System.{System}
use Rattle.rn_model.specs.declared.system.NetArc.{NetArc}
use Rattle.rn_model.specs.declared.binding.Node.{Node}
use Rattle.rn_model.specs.declared.binding.Binding.{Binding}
use Rattle.rn_model.specs.Bindings.{env_of}
use Rattle.rn_model.specs.Evaluation.{Env}
use Rattle.rn_model.specs.ExpressionLaws.{OperandsAreFit}
use Rattle.rn_model.specs.Systems.{transition_of}

-- the operands in an arc's inscription are fit
abbrev pub IsFitArc : Env → NetArc → Type 0
IsFitArc env arc = OperandsAreFit env arc.inscription

-- those in the inscriptions of all arcs of a node are, at its values
abbrev pub IsFitNode : System → Node → Type 0
IsFitNode system node = All (IsFitArc (env_of system node)) (transition_of system node).arcs

-- so at all nodes of a binding
abbrev pub InscriptionsAreFit : System → Binding → Type 0
InscriptionsAreFit system b = All (IsFitNode system) b.nodes
