use Rattle.rn_moves.proofs.LogMoves.{first_is_initial, moves_add_up}
use Rattle.rn_moves.proofs.laws.moves_add_up.Goals as goal

pub returns-clause-first : goal.returns-clause-first
returns-clause-first c = first_is_initial

pub returns-clause-run : goal.returns-clause-run
returns-clause-run c = moves_add_up
