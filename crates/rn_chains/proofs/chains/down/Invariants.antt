-- None of the keys that were passed is the one sought.
use Rattle.std.proofs.Common.{ℕ, ◌≤◌, length}
use Rattle.rn_chains.specs.link.Chains.{AreLinked, InBucket, IsUpToLast, IsBackTo}
use Rattle.rn_chains.proofs.chains.down.Given as goal

abbrev pub invariant-loop-at : goal.invariant-loop-at
invariant-loop-at l = record {
  within : l.at ≤ length l.keys;
  back : (buckets n : ℕ) → n ≤ length l.keys → AreLinked buckets l.keys l.befores →
      IsUpToLast (InBucket buckets l.key) l.keys n l.from →
      IsBackTo buckets l.key l.keys n l.at;
}

abbrev pub decreases-loop-at : goal.decreases-loop-at
decreases-loop-at l = l.at
