use Rattle.std.proofs.Common.{◌≡◌, ◌++◌, take}
use Rattle.rn_live.specs.link.Marks.{places_of}
use Rattle.rn_end_marking.specs.link.Lines.{lines_from}
use Rattle.rn_end_marking.proofs.listing.put_places.Given as goal

abbrev pub invariant-loop-place : goal.invariant-loop-place
invariant-loop-place l =
    l.lines.items
    ≡ l.initial.lines.items
    ++ lines_from l.number l.net 0 (take l.place (places_of l.table.marking l.number))
