use Rattle.std.proofs.Common.{◌≡◌, take}
use Rattle.std.specs.Prelude.{flat_map}
use Rattle.rn_end_marking.specs.link.Lines.{lines_at}
use Rattle.rn_end_marking.proofs.listing.lines_of.Given as goal

abbrev pub invariant-loop-number : goal.invariant-loop-number
invariant-loop-number l =
    l.lines.items ≡ flat_map (lines_at l.table.marking) (take l.number-index l.numbers)
