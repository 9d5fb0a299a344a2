-- The numbers so far are marked.
use Rattle.std.proofs.Common.{◌≡◌, length, take}
use Rattle.rn_occurring.proofs.MarkLemmas.{AreMarked}
use Rattle.rn_occurring.proofs.marks.marks_of.Given as goal

abbrev pub invariant-loop-number : goal.invariant-loop-number
invariant-loop-number l = record {
  room : length l.marks.items ≡ l.count;
  marked : AreMarked l.marks.items l.count (take l.number-index l.numbers);
}
