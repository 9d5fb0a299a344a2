use Rattle.std.proofs.Common.{◌≡◌, ◌≤◌, ◌-◌, ℕ, [], length, get_or}
use Rattle.std.specs.Prelude.{vec_capacity}
use Rattle.rn_incr.specs.link.Kept.{IsSum}
use Rattle.rn_incr.proofs.putting.lengthen.Given as goal

abbrev pub invariant-loop-alloc : goal.invariant-loop-alloc
invariant-loop-alloc l =
    ((n : ℕ) → get_or l.lists.items n [] ≡ get_or l.initial.lists.items n [])
    × (l.end ≤ vec_capacity l.lists)
    × ((total : ℕ) → IsSum l.initial.lists.items total → IsSum l.lists.items total)

abbrev pub decreases-loop-alloc : goal.decreases-loop-alloc
decreases-loop-alloc l = l.end - length l.lists.items
