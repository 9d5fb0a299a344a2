use Rattle.std.proofs.Common.{◌≡◌, take, map}
use Rattle.rn_table.specs.link.Leaves.{instances_in}
use Rattle.rn_table.proofs.table.Table.instances.Given as goal

abbrev pub invariant-loop-at : goal.invariant-loop-at
invariant-loop-at l = l.numbers.items ≡ map (λ i. i.number) (instances_in (take l.at l.self-inside.leaves))
