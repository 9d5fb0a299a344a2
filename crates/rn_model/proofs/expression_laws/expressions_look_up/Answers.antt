use Rattle.rn_model.proofs.ReadConditions.{truths_look_up}
use Rattle.rn_model.proofs.ValuesLookUp.{values_look_up}
use Rattle.rn_model.proofs.expression_laws.expressions_look_up.Goals as goal

pub returns-clause-values : goal.returns-clause-values
returns-clause-values c = values_look_up

pub returns-clause-truths : goal.returns-clause-truths
returns-clause-truths c = truths_look_up
