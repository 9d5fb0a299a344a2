use Rattle.rn_model.proofs.NumbersOfRuns.{each_number_is_there}
use Rattle.rn_model.proofs.firing_laws.each_number_is_there.Goals as goal

pub returns : goal.returns
returns c = each_number_is_there
