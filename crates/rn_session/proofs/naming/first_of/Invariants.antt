-- As many as were gone through.
use Rattle.std.proofs.Common.{◌≡◌, take}
use Rattle.rn_session.proofs.naming.first_of.Given as goal

abbrev pub invariant-loop-k : goal.invariant-loop-k
invariant-loop-k l = l.copied ≡ take l.k l.names
