use Rattle.rn_model.proofs.RunLemmas.{dead_runs_stop}
use Rattle.rn_model.proofs.laws.dead_runs_stop.Goals as goal

pub returns : goal.returns
returns c = dead_runs_stop
