use Rattle.rn_commands.proofs.MovesLemmas.{moves_go_with_replay}
use Rattle.rn_commands.proofs.laws.moves_laws.Goals as goal

pub returns : goal.returns
returns c = moves_go_with_replay
