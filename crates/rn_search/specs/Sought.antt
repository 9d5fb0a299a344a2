-- What a search looks for.
use Rattle.std.specs.Prelude.{ℕ, ◌≡◌, List, [], Some}
use Rattle.rn_model.specs.declared.system.System.{System}
use Rattle.rn_model.specs.declared.binding.Node.{Node}
use Rattle.rn_model.specs.declared.binding.Binding.{Binding}
use Rattle.rn_model.specs.Bindings.{node_at}
use Rattle.rn_model.specs.Markings.{Marking}
use Rattle.rn_model.specs.Enabling.{Enabled}
use Rattle.rn_growing.specs.declared.decision.Head.{Head}
use Rattle.rn_growing.specs.declared.decision.Decision.{Decision}
use Rattle.rn_growing.specs.Decisions.{Follows, head_of}

-- Bindings of a system that are enabled at a marking within a depth, and whose start is a given
-- node.
pub record Sought : Type 0 where
  pub system : System
  pub marking : Marking
  pub depth : ℕ
  pub start : Head

-- a binding's start is this node
abbrev pub StartsAt : Binding → Head → Type 0
StartsAt b start = (node : Node) × (node_at b [] ≡ Some node) × (head_of node ≡ start)

-- Some decisions lead to a binding: it is one of those that are looked for, and follows them.
pub record Leads (sought : Sought) (decisions : List Decision) (b : Binding) : Type 0 where
  pub enabled : Enabled sought.system sought.marking b sought.depth
  pub starts : StartsAt b sought.start
  pub follows : Follows sought.system b decisions
