use Rattle.rn_acts.proofs.NumberingLemmas.{creations_kept}
use Rattle.rn_acts.proofs.laws.numbering_keeps_creations.Goals as goal

pub returns : goal.returns
returns c = creations_kept
