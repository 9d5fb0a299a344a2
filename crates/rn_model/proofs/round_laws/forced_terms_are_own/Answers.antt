use Rattle.rn_model.proofs.ForcedValues.{forced_terms_are_own, forced_expressions_are_own}
use Rattle.rn_model.proofs.ForcedValues.{targets_are_children}
use Rattle.rn_model.proofs.round_laws.forced_terms_are_own.Goals as goal

pub returns-clause-terms : goal.returns-clause-terms
returns-clause-terms c = forced_terms_are_own

pub returns-clause-expressions : goal.returns-clause-expressions
returns-clause-expressions c = forced_expressions_are_own

pub returns-clause-targets : goal.returns-clause-targets
returns-clause-targets c = targets_are_children
