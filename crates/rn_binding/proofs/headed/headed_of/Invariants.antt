-- The nodes so far.
use Rattle.std.proofs.Common.{◌≡◌, ◌++◌, drop}
use Rattle.rn_binding.proofs.headed.headed_of.Given as goal

abbrev pub invariant-loop-i : goal.invariant-loop-i
invariant-loop-i l = l.headed.items ++ drop l.i l.nodes ≡ l.nodes
