use Rattle.rn_holders.proofs.ReachingLemmas.{IsGone}
use Rattle.rn_holders.proofs.backwards.go_back.Given as goal

abbrev pub invariant-loop-at : goal.invariant-loop-at
invariant-loop-at l = IsGone l.table.marking l.initial.found.keys l.found.keys l.at
