-- The names are those of the declarations so far.
use Rattle.std.proofs.Common.{◌≡◌, map, take}
use Rattle.rn_numbered.proofs.numbers.names_of.Given as goal

abbrev pub invariant-loop-item : goal.invariant-loop-item
invariant-loop-item g l = l.names ≡ map (λ item. (g.T.Named.name_of item).text) (take l.item-index l.items)
