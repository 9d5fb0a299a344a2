use Rattle.std.proofs.Common.{◌≡◌, ◌≤◌, ◌*◌, length, take}
use Rattle.std.specs.Prelude.{All}
use Rattle.rn_incr.proofs.SumLemmas.{joined, IsShort}
use Rattle.rn_incr.proofs.counting.count_of.Given as goal

abbrev pub invariant-loop-list : goal.invariant-loop-list
invariant-loop-list l =
    (l.count ≡ length (joined (take l.list-index l.lists)))
    × (l.count ≤ l.list-index * 18446744073709551615)
    × All IsShort (take l.list-index l.lists)
