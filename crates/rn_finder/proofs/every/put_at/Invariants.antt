use Rattle.std.proofs.Common.{◌≡◌, ◌++◌, List}
use Rattle.rn_model.specs.declared.binding.Binding.{Binding}
use Rattle.rn_finder.specs.Starting.{AreJust}
use Rattle.rn_finder.proofs.StartingBindings.{HasStartBelow}
use Rattle.rn_finder.proofs.every.put_at.Given as goal

-- those that start by the transitions before this one
abbrev pub invariant-loop-t : goal.invariant-loop-t
invariant-loop-t l = (more : List Binding) × (l.found.items ≡ l.initial.found.items ++ more)
    × AreJust l.marked.system.now l.marked.table.now.marking l.marked.depth
    (HasStartBelow l.inst.number l.inst.net l.t) more
