use Rattle.rn_acts.proofs.MayComeLemmas.{firings_may_come}
use Rattle.rn_acts.proofs.laws.firings_may_come.Goals as goal

pub returns : goal.returns
returns c = firings_may_come
