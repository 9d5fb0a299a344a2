use Rattle.std.proofs.Common.{◌≤◌, ◌<◌, ◌-◌, length, take}
use Rattle.rn_bag.specs.link.Chunks.{tokens_in}
use Rattle.rn_bag.proofs.counting.chunk_of.Given as goal

abbrev pub invariant-loop-high : goal.invariant-loop-high
invariant-loop-high l = record {
  ordered : l.low < l.high;
  inside : l.high ≤ length l.chunks;
  before : length (tokens_in (take l.low l.chunks)) ≤ l.index;
  after : l.index < length (tokens_in (take l.high l.chunks));
}

abbrev pub decreases-loop-high : goal.decreases-loop-high
decreases-loop-high l = l.high - l.low
