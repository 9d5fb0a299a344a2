use Rattle.std.proofs.Common.{◌-◌, []}
use Rattle.rn_firsts.specs.Known.{IsLookedAt}
use Rattle.rn_firsts.proofs.looking.first_from.Given as goal

abbrev pub invariant-loop-number : goal.invariant-loop-number
invariant-loop-number l = IsLookedAt l.marked.system.now l.marked.table.now.marking l.marked.depth l.until []

abbrev pub decreases-loop-number : goal.decreases-loop-number
decreases-loop-number l = l.marked.table.now.marking.next - l.until
