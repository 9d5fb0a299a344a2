use Rattle.rn_holders.proofs.BackLemmas.{IsGoneBy}
use Rattle.rn_holders.proofs.backwards.go_back_by.Given as goal

abbrev pub invariant-loop-at : goal.invariant-loop-at
invariant-loop-at l = IsGoneBy l.holders l.initial.found.keys l.found.keys l.at
