use Rattle.std.proofs.Common.{◌≡◌, map, drop}
use Rattle.rn_lines.specs.link.LinesSeen.{item}
use Rattle.rn_record_reader.specs.Marks.{are_single}
use Rattle.rn_record_reader.proofs.items.are_single.Given as goal

abbrev pub invariant-loop-item : goal.invariant-loop-item
invariant-loop-item l =
    are_single (map item (drop l.item-index l.items)) ≡ are_single (map item l.items)
