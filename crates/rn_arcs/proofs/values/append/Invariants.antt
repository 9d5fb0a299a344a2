use Rattle.std.proofs.Common.{◌≡◌, ◌++◌}
use Rattle.rn_arcs.proofs.values.append.Given as goal

abbrev pub invariant-loop-other : goal.invariant-loop-other
invariant-loop-other l = l.values ≡ l.initial.values ++ l.yielded
