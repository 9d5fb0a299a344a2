use Rattle.rn_table.proofs.LawLemmas.{same_left}
use Rattle.rn_table.proofs.laws.same_is_left.Goals as goal

pub returns : goal.returns
returns c = same_left
