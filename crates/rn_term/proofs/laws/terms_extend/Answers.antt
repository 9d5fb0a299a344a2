use Rattle.rn_term.proofs.GrowingStores.{terms_extend}
use Rattle.rn_term.proofs.laws.terms_extend.Goals as goal

pub returns : goal.returns
returns c = terms_extend
