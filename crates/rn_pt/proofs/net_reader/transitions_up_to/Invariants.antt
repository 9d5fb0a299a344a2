use Rattle.std.proofs.Common.{◌≤◌, ◌-◌, length, drop, ◌++◌}
use Rattle.rn_reading.proofs.Sorts.{and_then, many}
use Rattle.rn_reading.proofs.Uncounted.{At}
use Rattle.rn_pt.specs.Grammar.{TransitionsUpTo}
use Rattle.rn_pt.proofs.Phrases.{transition, closed}
use Rattle.rn_pt.proofs.net_reader.transitions_up_to.Given as goal

abbrev pub invariant-loop-all : goal.invariant-loop-all
invariant-loop-all l = record {
  moved : (l.fn.at ≤ l.now) × (l.now ≤ length l.tokens);
  reads : At TransitionsUpTo (drop l.fn.at l.tokens) l.tokens (and_then (many transition) (λ more. closed (l.all.items ++ more))) l.now;
}

abbrev pub decreases-loop-all : goal.decreases-loop-all
decreases-loop-all l = length l.tokens - l.now
