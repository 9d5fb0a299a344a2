use Rattle.rn_table.proofs.LawLemmas.{kept_after}
use Rattle.rn_table.proofs.laws.kept_after_removal.Goals as goal

pub returns : goal.returns
returns c = kept_after
