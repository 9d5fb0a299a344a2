use Rattle.rn_model.proofs.OwnValues.{own_values_satisfy}
use Rattle.rn_model.proofs.laws.own_values_satisfy.Goals as goal

pub returns : goal.returns
returns c = own_values_satisfy
