-- What is kept of the decisions so far.
use Rattle.std.proofs.Common.{◌-◌, length}
use Rattle.rn_branch.specs.Takings.{AreTakings}
use Rattle.rn_branch.proofs.takings.TakingCounts.catch_up.Given as goal

abbrev pub invariant-loop-alloc : goal.invariant-loop-alloc
invariant-loop-alloc l = AreTakings l.system l.decisions l.self

abbrev pub decreases-loop-alloc : goal.decreases-loop-alloc
decreases-loop-alloc l = length l.decisions - length l.self.counts.items
