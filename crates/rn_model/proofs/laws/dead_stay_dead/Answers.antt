use Rattle.rn_model.proofs.DeadInstances.{dead_stay_dead}
use Rattle.rn_model.proofs.SoundRuns.{dead_stay_dead_in_runs}
use Rattle.rn_model.proofs.laws.dead_stay_dead.Goals as goal

pub returns-clause-firing : goal.returns-clause-firing
returns-clause-firing c = dead_stay_dead

pub returns-clause-run : goal.returns-clause-run
returns-clause-run c = dead_stay_dead_in_runs
