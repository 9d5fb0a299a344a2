use Rattle.rn_moves.proofs.LogMoves.{moves_take_what_is_there}
use Rattle.rn_moves.proofs.laws.moves_take_what_is_there.Goals as goal

pub returns : goal.returns
returns c = moves_take_what_is_there
