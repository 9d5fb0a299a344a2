use Rattle.rn_incr.proofs.BusyLemmas.{AreBusyBelow}
use Rattle.rn_incr.proofs.busy.busy_of.Given as goal

abbrev pub invariant-loop-at : goal.invariant-loop-at
invariant-loop-at l = AreBusyBelow l.at l.lists l.busy
