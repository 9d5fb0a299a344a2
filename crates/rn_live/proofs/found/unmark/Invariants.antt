use Rattle.std.proofs.Common.{◌≡◌, ◌<◌, ℕ, false, length}
use Rattle.rn_live.specs.Rooms.{is_marked}
use Rattle.rn_live.proofs.found.unmark.Given as goal

abbrev pub invariant-loop-at : goal.invariant-loop-at
invariant-loop-at l = record {
  size : length l.marks.items ≡ length l.initial.marks.items;
  none : (n : ℕ) → n < l.at → is_marked l.marks.items n ≡ false;
}
