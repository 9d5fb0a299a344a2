use Rattle.std.proofs.Common.{◌≡◌, ◌<◌, ℕ, [], length, get_or}
use Rattle.rn_incr.specs.Lists.{IsListOf}
use Rattle.rn_incr.proofs.lists.lists_at.Given as goal

abbrev pub invariant-loop-number : goal.invariant-loop-number
invariant-loop-number l =
    (length l.lists.items ≡ l.number)
    × ((n : ℕ) → n < l.number →
    IsListOf l.system l.table.marking l.depth n (get_or l.lists.items n []))
