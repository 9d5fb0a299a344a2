-- What isn't live is what may be dropped.
use Rattle.rn_worker.proofs.considering.listed_at.Goals as goal

pub returns-clause-dead : goal.returns-clause-dead
returns-clause-dead c n listed = (c.in_ok-dead.ensures.dead n).0 listed
