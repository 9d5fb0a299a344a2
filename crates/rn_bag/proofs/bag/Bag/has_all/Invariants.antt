use Rattle.std.proofs.Common.{◌≤◌, take}
use Rattle.std.specs.List.{AllByRecursion}
use Rattle.rn_model.specs.Lists.{count_of}
use Rattle.rn_bag.proofs.bag.Bag.has_all.Given as goal

abbrev pub invariant-loop-i : goal.invariant-loop-i
invariant-loop-i l = AllByRecursion (λ w. count_of w l.values ≤ count_of w l.self) (take l.i l.values)
