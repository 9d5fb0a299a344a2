use Rattle.rn_least.proofs.LeastRuns.{least_is_one}
use Rattle.rn_least.proofs.laws.least_bindings_are_one.Goals as goal

pub returns : goal.returns
returns c = least_is_one
