use Rattle.rn_reach.proofs.ReachLemmas.{bindings_stay_in_reach, reach_is_the_same, reach_decides}
use Rattle.rn_reach.proofs.laws.bindings_stay_in_reach.Goals as goal

pub returns-clause-within : goal.returns-clause-within
returns-clause-within c = bindings_stay_in_reach

pub returns-clause-reached : goal.returns-clause-reached
returns-clause-reached c = reach_is_the_same

pub returns-clause-enabled : goal.returns-clause-enabled
returns-clause-enabled c = reach_decides
