use Rattle.rn_translated.proofs.RecordsOfRuns.{records_are_of_runs}
use Rattle.rn_translated.proofs.laws.records_tell_runs.Goals as goal

pub returns : goal.returns
returns c = records_are_of_runs
