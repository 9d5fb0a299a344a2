use Rattle.rn_model.proofs.OwnValues.{forced_is_own, forced_stays}
use Rattle.rn_model.proofs.laws.forced_is_own.Goals as goal

pub returns-clause-own : goal.returns-clause-own
returns-clause-own c = forced_is_own

pub returns-clause-stays : goal.returns-clause-stays
returns-clause-stays c = forced_stays
