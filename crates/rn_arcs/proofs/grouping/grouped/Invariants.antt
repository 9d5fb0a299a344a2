use Rattle.std.proofs.Common.{◌≡◌}
use Rattle.rn_arcs.specs.link.Groups.{groups_of}
use Rattle.rn_arcs.proofs.grouping.grouped.Given as goal

abbrev pub invariant-loop-ask : goal.invariant-loop-ask
invariant-loop-ask l = l.places.items ≡ groups_of l.yielded
