use Rattle.std.proofs.Common.{◌≤◌, ◌<◌, ◌-◌, length, take, get_or}
use Rattle.rn_bag.specs.Cuts.{AllBefore}
use Rattle.rn_bag.specs.link.Chunks.{Slots, values_in}
use Rattle.rn_bag.proofs.seek.chunk_of.Given as goal

abbrev pub invariant-loop-low : goal.invariant-loop-low
invariant-loop-low l = (l.low ≤ l.high) × (l.high ≤ length l.chunks) × AllBefore l.cut l.key (values_in (take l.low l.chunks)) × ((d : Slots) → l.high < length l.chunks → AllBefore l.cut l.key (get_or l.chunks l.high d).values → ⊥)

abbrev pub decreases-loop-low : goal.decreases-loop-low
decreases-loop-low l = l.high - l.low
