use Rattle.rn_commands.proofs.LeastTexts.{least_texts_are_one}
use Rattle.rn_commands.proofs.least_runs.least_run_laws.Goals as goal

pub returns : goal.returns
returns c = least_texts_are_one
