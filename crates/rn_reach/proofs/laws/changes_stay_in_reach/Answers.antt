use Rattle.rn_reach.proofs.ChangedInstances.{changes_are_reached_in_both, others_stay}
use Rattle.rn_reach.proofs.laws.changes_stay_in_reach.Goals as goal

pub returns-clause-reached : goal.returns-clause-reached
returns-clause-reached c = changes_are_reached_in_both

pub returns-clause-others : goal.returns-clause-others
returns-clause-others c = others_stay
