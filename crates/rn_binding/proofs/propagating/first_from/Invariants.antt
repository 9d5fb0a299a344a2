-- The two ends between which the edge is sought.
use Rattle.std.proofs.Common.{◌≤◌, ◌-◌, length}
use Rattle.rn_binding.proofs.propagating.first_from.Given as goal

abbrev pub invariant-loop-low : goal.invariant-loop-low
invariant-loop-low l = (l.low ≤ l.high) × (l.high ≤ length l.edges)

abbrev pub decreases-loop-low : goal.decreases-loop-low
decreases-loop-low l = l.high - l.low
