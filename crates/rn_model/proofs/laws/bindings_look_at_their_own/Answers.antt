use Rattle.rn_model.proofs.OwnInstances.{looks_at_its_own}
use Rattle.rn_model.proofs.laws.bindings_look_at_their_own.Goals as goal

pub returns : goal.returns
returns c = looks_at_its_own
