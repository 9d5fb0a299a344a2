use Rattle.rn_moves.proofs.Told.{logs_have_moves}
use Rattle.rn_moves.proofs.writing.logs_have_moves.Goals as goal

pub returns : goal.returns
returns c = logs_have_moves
