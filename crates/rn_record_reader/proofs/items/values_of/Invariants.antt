use Rattle.std.proofs.Common.{◌≡◌, map, take}
use Rattle.rn_lines.specs.link.LinesSeen.{item}
use Rattle.rn_record_reader.specs.Marks.{values_told}
use Rattle.rn_record_reader.proofs.items.values_of.Given as goal

abbrev pub invariant-loop-item : goal.invariant-loop-item
invariant-loop-item l = l.values ≡ values_told (map item (take l.item-index l.items))
