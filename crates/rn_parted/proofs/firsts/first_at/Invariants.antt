use Rattle.std.proofs.Common.{◌-◌, []}
use Rattle.rn_finder.specs.Starting.{AreJust}
use Rattle.rn_finder.proofs.StartingBindings.{HasStartBefore}
use Rattle.rn_parted.proofs.firsts.first_at.Given as goal

-- none starts with the instances before this number
abbrev pub invariant-loop-number : goal.invariant-loop-number
invariant-loop-number l =
    AreJust l.marked.system.now l.marked.table.now.marking l.marked.depth
    (HasStartBefore l.from) []

abbrev pub decreases-loop-number : goal.decreases-loop-number
decreases-loop-number l = l.marked.table.now.marking.next - l.from
