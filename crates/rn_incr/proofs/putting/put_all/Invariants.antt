use Rattle.std.proofs.Common.{◌≡◌, length}
use Rattle.rn_incr.specs.link.Kept.{IsSum, put_in}
use Rattle.rn_incr.proofs.putting.put_all.Given as goal

abbrev pub invariant-loop-one : goal.invariant-loop-one
invariant-loop-one l =
    (put_in l.fresh.items l.lists.items ≡ put_in l.initial.fresh.items l.initial.lists.items)
    × IsSum l.lists.items l.total

abbrev pub decreases-loop-one : goal.decreases-loop-one
decreases-loop-one l = length l.fresh.items
