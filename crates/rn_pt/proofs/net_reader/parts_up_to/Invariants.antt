use Rattle.std.proofs.Common.{◌≤◌, ◌-◌, length, drop, ◌++◌}
use Rattle.rn_reading.proofs.Sorts.{and_then, many}
use Rattle.rn_reading.proofs.Uncounted.{At}
use Rattle.rn_pt.specs.Grammar.{PartsUpTo}
use Rattle.rn_pt.proofs.Phrases.{place, parts_end}
use Rattle.rn_pt.proofs.net_reader.parts_up_to.Given as goal

abbrev pub invariant-loop-places : goal.invariant-loop-places
invariant-loop-places l = record {
  moved : (l.fn.at ≤ l.now) × (l.now ≤ length l.tokens);
  reads : At PartsUpTo (drop l.fn.at l.tokens) l.tokens (and_then (many place) (λ more. parts_end (l.places.items ++ more))) l.now;
}

abbrev pub decreases-loop-places : goal.decreases-loop-places
decreases-loop-places l = length l.tokens - l.now
