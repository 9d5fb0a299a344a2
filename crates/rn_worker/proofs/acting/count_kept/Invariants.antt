use Rattle.std.proofs.Common.{◌≡◌, ◌≤◌, take}
use Rattle.rn_worker.specs.Pacing.{kept_among}
use Rattle.rn_worker.proofs.acting.count_kept.Given as goal

abbrev pub invariant-loop-number : goal.invariant-loop-number
invariant-loop-number l = record {
  few : l.count ≤ l.number-index;
  exact : l.count ≡ kept_among (take l.number-index l.numbers) l.table.marking;
}
