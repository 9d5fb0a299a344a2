use Rattle.rn_growing.proofs.GoodSystems.{good_have_few_creations}
use Rattle.rn_growing.proofs.laws.good_systems_open.Goals as goal

pub returns : goal.returns
returns c = good_have_few_creations
