use Rattle.rn_acts.proofs.NumberingLemmas.{nodes_kept}
use Rattle.rn_acts.proofs.laws.numbering_keeps_nodes.Goals as goal

pub returns : goal.returns
returns c = nodes_kept
