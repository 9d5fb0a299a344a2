use Rattle.rn_commands.proofs.PartLemmas.{one_parting}
use Rattle.rn_commands.proofs.laws.parts_laws.Goals as goal

pub returns : goal.returns
returns c = one_parting
