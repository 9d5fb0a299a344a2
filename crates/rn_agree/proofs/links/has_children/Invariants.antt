use Rattle.std.proofs.Common.{ℕ, ◌≡◌, ◌<◌, ◌++◌, ◌∷◌, []}
use Rattle.std.specs.Prelude.{Some, slice_get}
use Rattle.rn_model.specs.declared.binding.Node.{Node}
use Rattle.rn_model.specs.declared.system.Downlink.{Downlink}
use Rattle.rn_model.specs.Systems.{transition_of}
use Rattle.rn_model.specs.Bindings.{HasUplinkOf, node_at}
use Rattle.rn_agree.proofs.links.has_children.Given as goal

abbrev pub invariant-loop-i : goal.invariant-loop-i
invariant-loop-i l = (i : ℕ) (downlink : Downlink) → i < l.i →
    slice_get (transition_of l.system l.node).downlinks i ≡ Some downlink →
    (node : Node) × (node_at l.binding (l.node.path ++ i ∷ []) ≡ Some node)
    × HasUplinkOf l.system node downlink.channel
