use Rattle.rn_model.proofs.LiveBindings.{enabled_name_live}
use Rattle.rn_model.proofs.laws.enabled_name_live.Goals as goal

pub returns : goal.returns
returns c = enabled_name_live
