use Rattle.rn_declared.proofs.BothKinds.{both_give_their_kinds}
use Rattle.rn_declared.proofs.laws.both_give_their_kinds.Goals as goal

pub returns : goal.returns
returns c = both_give_their_kinds
