-- Which instances firings may change.
use Rattle.std.specs.Prelude.{ℕ, ◌≡◌, ◌<◌, ◌≤◌, ◌⊎◌, List, Contains}
use Rattle.rn_value.specs.declared.value.InstRef.TheVariants.{Old}
use Rattle.rn_model.specs.declared.binding.Node.{Node}
use Rattle.rn_model.specs.declared.binding.Binding.{Binding}
use Rattle.rn_model.specs.Runs.{Firing}

-- a node of a binding stands on an existing instance
abbrev pub HasNodeOn : Binding → ℕ → Type 0
HasNodeOn b n = (node : Node) × Contains b.nodes node × (node.inst ≡ Old n)

-- a node of one of these firings does
abbrev pub HaveNodeOn : List Firing → ℕ → Type 0
HaveNodeOn fs n = (f : Firing) × Contains fs f × HasNodeOn f.binding n

-- These firings may change an instance: a node of one of them stands on it, or it is one that they
-- make. Those have the numbers from the next one before them to before the next one after them.
abbrev pub MayChange : List Firing → ℕ → ℕ → ℕ → Type 0
MayChange fs before after n = HaveNodeOn fs n ⊎ ((before ≤ n) × (n < after))
