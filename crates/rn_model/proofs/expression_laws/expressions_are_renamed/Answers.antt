use Rattle.rn_model.proofs.RenamedReadings.{values_are_renamed, truths_stay_renamed}
use Rattle.rn_model.proofs.expression_laws.expressions_are_renamed.Goals as goal

pub returns-clause-values : goal.returns-clause-values
returns-clause-values c = values_are_renamed

pub returns-clause-truths : goal.returns-clause-truths
returns-clause-truths c = truths_stay_renamed
