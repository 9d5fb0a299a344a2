use Rattle.rn_model.proofs.AgreeingValues.{expressions_have_kinds}
use Rattle.rn_model.proofs.AgreeingValues.{agreeing_operands_are_fit}
use Rattle.rn_model.proofs.AgreeingValues.{inscriptions_have_values}
use Rattle.rn_model.proofs.AgreeingValues.{guards_compare_values}
use Rattle.rn_model.proofs.expression_laws.agreeing_values_have_kinds.Goals as goal

pub returns-clause-expressions : goal.returns-clause-expressions
returns-clause-expressions c = expressions_have_kinds

pub returns-clause-operands : goal.returns-clause-operands
returns-clause-operands c = agreeing_operands_are_fit

pub returns-clause-inscriptions : goal.returns-clause-inscriptions
returns-clause-inscriptions c = inscriptions_have_values

pub returns-clause-guards : goal.returns-clause-guards
returns-clause-guards c = guards_compare_values
