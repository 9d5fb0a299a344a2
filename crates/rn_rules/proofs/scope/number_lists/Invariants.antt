-- The lists so far are the same.
use Rattle.std.proofs.Common.{◌≡◌, take}
use Rattle.rn_rules.proofs.scope.number_lists.Given as goal

abbrev pub invariant-loop-list : goal.invariant-loop-list
invariant-loop-list g l = l.all.items ≡ take l.list-index l.lists
