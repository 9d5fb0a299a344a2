use Rattle.std.proofs.Common.{◌≡◌, map, take}
use Rattle.std.specs.Prelude.{All}
use Rattle.rn_incr.specs.Lists.{IsListOf}
use Rattle.rn_incr.proofs.fresh.fresh_lists.Given as goal

abbrev pub invariant-loop-number : goal.invariant-loop-number
invariant-loop-number l =
    (map (λ f. f.number) l.fresh.items ≡ take l.number-index l.numbers)
    × All (λ f. IsListOf l.system l.table.marking l.depth f.number f.list) l.fresh.items
