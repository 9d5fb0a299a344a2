use Rattle.rn_term.proofs.OneValue.{ground_is_forced}
use Rattle.rn_term.proofs.laws.ground_is_forced.Goals as goal

pub returns : goal.returns
returns c = ground_is_forced
