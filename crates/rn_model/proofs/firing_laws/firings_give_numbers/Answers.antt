use Rattle.rn_model.proofs.CountsAfterFiring.{next_after_firing, instances_after_firing}
use Rattle.rn_model.proofs.firing_laws.firings_give_numbers.Goals as goal

pub returns-clause-next : goal.returns-clause-next
returns-clause-next c = next_after_firing

pub returns-clause-instances : goal.returns-clause-instances
returns-clause-instances c = instances_after_firing
