use Rattle.std.proofs.Common.{◌-◌}
use Rattle.rn_finder.specs.Idle.{AreIdle}
use Rattle.rn_finder.specs.Starting.{AreNoStartsBetween}
use Rattle.rn_finder.proofs.finding.Finding.find_between.Given as goal

-- the instances before this number start nothing
abbrev pub invariant-loop-number : goal.invariant-loop-number
invariant-loop-number g l = record {
  none : AreNoStartsBetween l.marked.system.now l.marked.table.now l.marked.depth l.numbers.from l.next;
  idle : AreIdle l.marked.system.now l.marked.table.now.marking l.marked.depth l.idle;
}

abbrev pub decreases-loop-number : goal.decreases-loop-number
decreases-loop-number g l = l.numbers.end - l.next
