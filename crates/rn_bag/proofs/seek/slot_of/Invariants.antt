use Rattle.std.proofs.Common.{◌≤◌, ◌-◌, length, take, drop}
use Rattle.rn_bag.specs.Cuts.{AllBefore, NoneBefore}
use Rattle.rn_bag.proofs.seek.slot_of.Given as goal

abbrev pub invariant-loop-low : goal.invariant-loop-low
invariant-loop-low l = (l.low ≤ l.high) × (l.high ≤ length l.values) × AllBefore l.cut l.key (take l.low l.values) × NoneBefore l.cut l.key (drop l.high l.values)

abbrev pub decreases-loop-low : goal.decreases-loop-low
decreases-loop-low l = l.high - l.low
