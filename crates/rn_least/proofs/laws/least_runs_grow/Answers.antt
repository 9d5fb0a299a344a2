use Rattle.rn_least.proofs.LeastRuns.{least_runs_grow, prefixes_are_least_runs}
use Rattle.rn_least.proofs.laws.least_runs_grow.Goals as goal

pub returns-clause-grow : goal.returns-clause-grow
returns-clause-grow c = least_runs_grow

pub returns-clause-prefixes : goal.returns-clause-prefixes
returns-clause-prefixes c = prefixes_are_least_runs
