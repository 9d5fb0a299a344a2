-- Going back among the keys.
use Rattle.std.proofs.Common.{◌≤◌, length}
use Rattle.rn_branch.proofs.takings.TakingCounts.times.Given as goal

abbrev pub invariant-loop-at : goal.invariant-loop-at
invariant-loop-at l = l.at ≤ length l.self.keys

abbrev pub decreases-loop-at : goal.decreases-loop-at
decreases-loop-at l = l.at
