-- What is dropped at the end leaves the log.
use Rattle.rn_least_workers.proofs.LeastSeen.{kept_least}
use Rattle.rn_least_workers.proofs.workers.run_least.Goals as goal

pub returns-clause-least : goal.returns-clause-least
returns-clause-least g c =
    kept_least c.run-state.result.state c.drop_dead.new.state c.drop_dead.ensures.kept
    c.run-state.ensures.least
