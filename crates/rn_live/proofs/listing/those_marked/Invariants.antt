use Rattle.std.proofs.Common.{◌≡◌, take, filter}
use Rattle.rn_live.specs.Rooms.{is_marked}
use Rattle.rn_live.proofs.listing.those_marked.Given as goal

abbrev pub invariant-loop-number : goal.invariant-loop-number
invariant-loop-number l = l.those.items ≡ filter (is_marked l.room.marks) (take l.number-index l.numbers)
