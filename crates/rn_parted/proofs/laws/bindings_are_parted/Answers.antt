use Rattle.rn_parted.proofs.PartingLemmas.{bindings_are_parted}
use Rattle.rn_parted.proofs.StayLemmas.{parts_stay}
use Rattle.rn_parted.proofs.laws.bindings_are_parted.Goals as goal

pub returns-clause-parted : goal.returns-clause-parted
returns-clause-parted c = bindings_are_parted

pub returns-clause-stay : goal.returns-clause-stay
returns-clause-stay c = parts_stay
