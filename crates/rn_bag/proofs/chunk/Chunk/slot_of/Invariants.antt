use Rattle.std.proofs.Common.{◌≤◌, ◌<◌, ◌-◌, length, take}
use Rattle.rn_bag.specs.Slots.{there_from}
use Rattle.rn_bag.specs.Words.{has_bit}
use Rattle.rn_bag.proofs.chunk.Chunk.slot_of.Given as goal

abbrev pub invariant-loop-high : goal.invariant-loop-high
invariant-loop-high l = record {
  ordered : l.low < l.high;
  inside : l.high ≤ length l.self.values;
  before : length (there_from (has_bit l.self.there) 0 (take l.low l.self.values)) ≤ l.index;
  after : l.index < length (there_from (has_bit l.self.there) 0 (take l.high l.self.values));
}

abbrev pub decreases-loop-high : goal.decreases-loop-high
decreases-loop-high l = l.high - l.low
