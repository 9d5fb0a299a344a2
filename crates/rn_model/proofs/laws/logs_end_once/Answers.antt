use Rattle.rn_model.proofs.RunLemmas.{logs_end_once}
use Rattle.rn_model.proofs.laws.logs_end_once.Goals as goal

pub returns : goal.returns
returns c = logs_end_once
