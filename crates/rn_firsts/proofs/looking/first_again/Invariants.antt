use Rattle.std.proofs.Common.{length}
use Rattle.rn_firsts.specs.Known.{IsLookedAt}
use Rattle.rn_firsts.proofs.looking.first_again.Given as goal

abbrev pub invariant-loop-first : goal.invariant-loop-first
invariant-loop-first l =
    IsLookedAt l.marked.system.now l.marked.table.now.marking l.marked.depth l.until l.again.keys

abbrev pub decreases-loop-first : goal.decreases-loop-first
decreases-loop-first l = length l.again.keys
