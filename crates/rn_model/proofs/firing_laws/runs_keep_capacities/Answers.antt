use Rattle.rn_model.proofs.CapacitiesOfRuns.{initial_keeps_capacities, firings_keep_capacities}
use Rattle.rn_model.proofs.CapacitiesOfRuns.{runs_keep_capacities}
use Rattle.rn_model.proofs.firing_laws.runs_keep_capacities.Goals as goal

pub returns-clause-initial : goal.returns-clause-initial
returns-clause-initial c = initial_keeps_capacities

pub returns-clause-kept : goal.returns-clause-kept
returns-clause-kept c = firings_keep_capacities

pub returns-clause-ends : goal.returns-clause-ends
returns-clause-ends c = runs_keep_capacities
