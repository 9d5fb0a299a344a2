use Rattle.rn_search.proofs.Made.{forced_are_made}
use Rattle.rn_search.proofs.laws.forced_are_made.Goals as goal

pub returns : goal.returns
returns c = forced_are_made
