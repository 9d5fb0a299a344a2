use Rattle.rn_acts.proofs.NumberingLemmas.{kinds_kept}
use Rattle.rn_acts.proofs.laws.numbering_keeps_kinds.Goals as goal

pub returns : goal.returns
returns c = kinds_kept
