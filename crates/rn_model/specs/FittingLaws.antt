-- Laws over the places that fit. Each is the contract of a function that does nothing.
use Rattle.std.specs.Prelude.{ℕ, Contains}
use Rattle.rn_value.specs.declared.value.InstRef.{InstRef}
use Rattle.rn_model.specs.declared.system.System.{System}
use Rattle.rn_model.specs.declared.system.NetArc.{NetArc}
use Rattle.rn_model.specs.declared.binding.Node.{Node}
use Rattle.rn_model.specs.declared.binding.Binding.{Binding}
use Rattle.rn_model.specs.Systems.{transition_of}
use Rattle.rn_model.specs.Markings.{Marking}
use Rattle.rn_model.specs.Enabling.{PlaceFits}

-- all places fit where those fit that some arc of some node names
abbrev pub PlacesFitByArcs : Type 0
PlacesFitByArcs = (system : System) (m : Marking) (b : Binding) →
    ((node : Node) (arc : NetArc) → Contains b.nodes node →
    Contains (transition_of system node).arcs arc → PlaceFits system m b node.inst arc.place) →
    (inst : InstRef) (place : ℕ) → PlaceFits system m b inst place
