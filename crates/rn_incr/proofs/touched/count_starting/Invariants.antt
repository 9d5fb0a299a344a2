use Rattle.std.proofs.Common.{◌≡◌, ◌≤◌, length, take}
use Rattle.std.specs.Prelude.{filter}
use Rattle.rn_incr.proofs.TouchedLemmas.{starts_at}
use Rattle.rn_incr.proofs.touched.count_starting.Given as goal

abbrev pub invariant-loop-number : goal.invariant-loop-number
invariant-loop-number l =
    (l.count ≡ length (filter (starts_at l.system l.table.marking) (take l.number-index l.numbers)))
    × (l.count ≤ l.number-index)
