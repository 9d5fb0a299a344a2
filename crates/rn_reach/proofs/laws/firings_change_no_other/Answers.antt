use Rattle.rn_reach.proofs.OtherInstances.{firings_change_no_other}
use Rattle.rn_reach.proofs.laws.firings_change_no_other.Goals as goal

pub returns : goal.returns
returns c = firings_change_no_other
