use Rattle.rn_term.proofs.ForcedTerms.{forced_is_ground}
use Rattle.rn_term.proofs.laws.forced_is_ground.Goals as goal

pub returns : goal.returns
returns c = forced_is_ground
