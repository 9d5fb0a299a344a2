use Rattle.std.proofs.Common.{◌≤◌, ◌-◌, length, drop, ◌++◌}
use Rattle.rn_reading.proofs.Sorts.{and_then, many}
use Rattle.rn_reading.proofs.Uncounted.{At}
use Rattle.rn_pt.specs.Grammar.{ArcsUpTo}
use Rattle.rn_pt.proofs.Phrases.{arc, closed}
use Rattle.rn_pt.proofs.arc_reader.arcs_up_to.Given as goal

abbrev pub invariant-loop-all : goal.invariant-loop-all
invariant-loop-all l = record {
  moved : (l.fn.at ≤ l.now) × (l.now ≤ length l.tokens);
  reads : At ArcsUpTo (drop l.fn.at l.tokens) l.tokens (and_then (many arc) (λ more. closed (l.all.items ++ more))) l.now;
}

abbrev pub decreases-loop-all : goal.decreases-loop-all
decreases-loop-all l = length l.tokens - l.now
