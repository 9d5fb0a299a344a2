-- The values so far, and those of the items that are left, are all.
use Rattle.std.proofs.Common.{◌≡◌, ◌≤◌, ◌+◌, map, drop}
use Rattle.rn_lines.specs.link.LinesSeen.{item}
use Rattle.rn_record_reader.specs.Marks.{size_of}
use Rattle.rn_record_reader.proofs.items.size_up_to.Given as goal

abbrev pub invariant-loop-item : goal.invariant-loop-item
invariant-loop-item l = record {
  all : l.size + size_of (map item (drop l.item-index l.items)) ≡ size_of (map item l.items);
  low : l.size ≤ l.most;
}
