use Rattle.rn_check.proofs.GoodSystems.{checked_systems_are_good}
use Rattle.rn_check.proofs.laws.checked_systems_are_good.Goals as goal

pub returns : goal.returns
returns c = checked_systems_are_good
