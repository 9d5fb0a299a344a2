use Rattle.std.proofs.Common.{◌≡◌, take, filter}
use Rattle.rn_live.specs.link.Marks.{is_unmarked}
use Rattle.rn_live.proofs.listing.those_unmarked.Given as goal

abbrev pub invariant-loop-number : goal.invariant-loop-number
invariant-loop-number l = l.those.items ≡ filter (is_unmarked l.room.marks) (take l.number-index l.numbers)
