use Rattle.std.proofs.Common.{◌≤◌, length}
use Rattle.rn_parted.proofs.PlaceLemmas.{SameUpTo}
use Rattle.rn_parted.proofs.places.others_same.Given as goal

abbrev pub invariant-loop-other : goal.invariant-loop-other
invariant-loop-other l = record {
  first : l.other ≤ length l.before.places;
  second : l.other ≤ length l.after.places;
  same : SameUpTo l.before.places l.after.places l.place l.other;
}
