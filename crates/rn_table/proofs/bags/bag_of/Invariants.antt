use Rattle.std.proofs.Common.{◌≡◌, drop}
use Rattle.rn_model.specs.Lists.{ordered_values}
use Rattle.rn_table.proofs.bags.bag_of.Given as goal

abbrev pub invariant-loop-i : goal.invariant-loop-i
invariant-loop-i l = l.bag ≡ ordered_values (drop l.i l.values)
