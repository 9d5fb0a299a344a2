-- The items that are left are told from the one before them.
use Rattle.std.proofs.Common.{◌≡◌, map, drop}
use Rattle.rn_lines.specs.link.LinesSeen.{item}
use Rattle.rn_record_reader.specs.Marks.{parted_from}
use Rattle.rn_record_reader.proofs.items.parted_from.Given as goal

abbrev pub invariant-loop-item : goal.invariant-loop-item
invariant-loop-item l =
    parted_from l.before (map item (drop l.item-index l.items))
    ≡ parted_from l.first (map item l.items)
