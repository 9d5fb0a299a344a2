-- In which instance a binding starts.
use Rattle.std.proofs.Common.{◌≡◌, ℕ, [], ap}
use Rattle.std.specs.Prelude.{Contains, nat_eq}
use Rattle.std.specs.Cmp.Lexicographic.{pointwise}
use Rattle.rn_value.specs.declared.value.InstRef.TheVariants.{Old}
use Rattle.rn_model.specs.declared.binding.Node.{Node}
use Rattle.rn_model.specs.declared.binding.Binding.{Binding}
use Rattle.rn_model.specs.declared.system.System.{System}
use Rattle.rn_model.specs.Enabling.{Enabled}
use Rattle.rn_model.specs.Markings.{Marking}
use Rattle.rn_model.proofs.MarkingsOfRuns.{found_is_there}
use Rattle.rn_finder.specs.Starting.{HasStartIn}
use Rattle.rn_reach.specs.Reach.{StartsIn}

-- a binding that starts by a transition of an instance starts in it
pub starts_in_it : (b : Binding) (n : ℕ) → HasStartIn n b → StartsIn b n
starts_in_it b n (net, t, (node, at, is)) = (node, at, ap (λ h. h.inst) is)

-- the start of an enabled binding stands on the empty path
pub starts_with : (system : System) (m : Marking) (depth : ℕ) (b : Binding) (n : ℕ) →
    Enabled system m b depth → HasStartIn n b →
    (node : Node) × Contains b.nodes node × (node.path ≡ []) × (node.inst ≡ Old n)
starts_with system m depth b n enabled (net, t, (node, at, is)) = (
  node,
  found_is_there (λ x. pointwise nat_eq x.path []) b.nodes node at,
  ap (λ h. h.path) is,
  ap (λ h. h.inst) is,
)
