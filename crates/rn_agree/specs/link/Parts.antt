-- What the parts of the code decide. This only connects the code to the definitions.
use Rattle.std.specs.Prelude.{ℕ, ◌≡◌, ◌≢◌, ◌≤◌, [], ◌∷◌, ◌++◌, length, Some, slice_get, Contains}
use Rattle.rn_model.specs.declared.system.System.{System}
use Rattle.rn_model.specs.declared.system.Downlink.{Downlink}
use Rattle.rn_model.specs.declared.binding.Node.{Node}
use Rattle.rn_model.specs.declared.binding.Binding.{Binding}
use Rattle.rn_model.specs.Systems.{transition_of}
use Rattle.rn_model.specs.Bindings.{node_at, IsNodeOf, HasUplinkOf, IsOfCreation}

-- a node of the system, no deeper than that
pub record IsInRange (system : System) (depth : ℕ) (node : Node) : Type 0 where
  pub deep : length node.path ≤ depth
  pub own : IsNodeOf system node

-- each downlink of the node has its child, whose uplink is of its channel
abbrev pub HasChildren : System → Binding → Node → Type 0
HasChildren system b caller = (i : ℕ) (downlink : Downlink) →
    slice_get (transition_of system caller).downlinks i ≡ Some downlink →
    (node : Node) × (node_at b (caller.path ++ i ∷ []) ≡ Some node)
    × HasUplinkOf system node downlink.channel

-- unless the node's path is empty, some downlink of some node leads there
abbrev pub HasCaller : System → Binding → Node → Type 0
HasCaller system b node = node.path ≢ [] →
    (caller : Node) × (i : ℕ) × (downlink : Downlink) × Contains b.nodes caller
    × (slice_get (transition_of system caller).downlinks i ≡ Some downlink)
    × (node.path ≡ caller.path ++ i ∷ [])

-- all that one node asks of the others
pub record IsLinked (system : System) (b : Binding) (node : Node) : Type 0 where
  pub children : HasChildren system b node
  pub called : HasCaller system b node
  pub created : IsOfCreation system b node
