use Rattle.rn_moves.proofs.OneList.{moves_are_one}
use Rattle.rn_moves.proofs.laws.moves_are_one.Goals as goal

pub returns : goal.returns
returns c = moves_are_one
