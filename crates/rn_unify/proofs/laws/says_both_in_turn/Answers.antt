use Rattle.rn_unify.proofs.StepsInTurn.{says_both_in_turn}
use Rattle.rn_unify.proofs.laws.says_both_in_turn.Goals as goal

pub returns : goal.returns
returns c = says_both_in_turn
