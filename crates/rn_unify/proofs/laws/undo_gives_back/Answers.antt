use Rattle.rn_unify.proofs.EarlierMarks.{undo_gives_back}
use Rattle.rn_unify.proofs.laws.undo_gives_back.Goals as goal

pub returns : goal.returns
returns c = undo_gives_back
