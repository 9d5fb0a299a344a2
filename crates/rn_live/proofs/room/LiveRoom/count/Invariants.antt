-- Those counted are those marked so far.
use Rattle.std.proofs.Common.{◌≡◌, take}
use Rattle.std.specs.List.{count_by}
use Rattle.rn_live.proofs.room.LiveRoom.count.Given as goal

abbrev pub invariant-loop-mark : goal.invariant-loop-mark
invariant-loop-mark l = l.count ≡ count_by (λ mark. mark) (take l.mark-index l.mark-items)
