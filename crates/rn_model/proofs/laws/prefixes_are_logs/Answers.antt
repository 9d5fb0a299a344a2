use Rattle.rn_model.proofs.RunLemmas.{prefixes_are_logs}
use Rattle.rn_model.proofs.laws.prefixes_are_logs.Goals as goal

pub returns : goal.returns
returns c = prefixes_are_logs
