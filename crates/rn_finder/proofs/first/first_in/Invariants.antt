use Rattle.std.proofs.Common.{[]}
use Rattle.rn_finder.specs.Starting.{AreJust}
use Rattle.rn_finder.proofs.StartingBindings.{HasStartBelow}
use Rattle.rn_finder.proofs.first.first_in.Given as goal

-- none starts by the transitions before this one
abbrev pub invariant-loop-t : goal.invariant-loop-t
invariant-loop-t l =
    AreJust l.marked.system.now l.marked.table.now.marking l.marked.depth
    (HasStartBelow l.inst.number l.inst.net l.t) []
