use Rattle.rn_growing.proofs.KindsOfForced.{kinded_force_kinds}
use Rattle.rn_growing.proofs.laws.kinded_decisions_force_kinds.Goals as goal

pub returns : goal.returns
returns c = kinded_force_kinds
