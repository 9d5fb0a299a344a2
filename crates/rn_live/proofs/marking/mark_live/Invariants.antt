use Rattle.std.proofs.Common.{◌≡◌, ◌+◌, length, vec_len}
use Rattle.std.specs.Prelude.{not, count_by, vec_capacity}
use Rattle.rn_live.specs.link.Marks.{HasRoom}
use Rattle.rn_live.proofs.LiveMarks.{IsUnderWay}
use Rattle.rn_live.proofs.marking.mark_live.Given as goal

abbrev pub invariant-loop-number : goal.invariant-loop-number
invariant-loop-number l = record {
  so : IsUnderWay l.system l.table.marking l.found.marks.items l.found.waiting.items;
  room : HasRoom l.found;
  size : length l.found.marks.items ≡ length l.initial.found.marks.items;
  capacity : vec_capacity l.found.waiting ≡ vec_capacity l.initial.found.waiting;
}

abbrev pub decreases-loop-number : goal.decreases-loop-number
decreases-loop-number l = vec_len l.found.waiting + count_by not l.found.marks.items
