use Rattle.std.proofs.Common.{◌≤◌, ◌-◌}
use Rattle.rn_finder.specs.Idle.{AreIdle}
use Rattle.rn_finder.specs.Starting.{AreNoStartsBetween}
use Rattle.rn_finder.proofs.finding.next_start.Given as goal

-- the instances before this number start nothing
abbrev pub invariant-loop-start : goal.invariant-loop-start
invariant-loop-start l = record {
  least : l.from ≤ l.next;
  none : AreNoStartsBetween l.marked.system.now l.marked.table.now l.marked.depth l.from l.next;
  idle : AreIdle l.marked.system.now l.marked.table.now.marking l.marked.depth l.idle;
}

abbrev pub decreases-loop-start : goal.decreases-loop-start
decreases-loop-start l = 4294967296 - l.next
