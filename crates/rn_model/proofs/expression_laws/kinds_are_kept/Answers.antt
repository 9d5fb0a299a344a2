use Rattle.rn_model.proofs.DefinedConditions.{truths_are_defined}
use Rattle.rn_model.proofs.OperandKinds.{values_have_kinds, kinds_fit_operands, actions_keep_kinds}
use Rattle.rn_model.proofs.expression_laws.kinds_are_kept.Goals as goal

pub returns-clause-values : goal.returns-clause-values
returns-clause-values c = values_have_kinds

pub returns-clause-operands : goal.returns-clause-operands
returns-clause-operands c = kinds_fit_operands

pub returns-clause-truths : goal.returns-clause-truths
returns-clause-truths c = truths_are_defined

pub returns-clause-actions : goal.returns-clause-actions
returns-clause-actions c = actions_keep_kinds
