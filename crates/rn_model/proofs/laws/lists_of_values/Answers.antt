use Rattle.rn_model.proofs.ValueLists.{ordered_values_ascend, ordered_values_stay, others_are_taken}
use Rattle.rn_model.proofs.laws.lists_of_values.Goals as goal

pub returns-clause-ascend : goal.returns-clause-ascend
returns-clause-ascend c = ordered_values_ascend

pub returns-clause-stay : goal.returns-clause-stay
returns-clause-stay c = ordered_values_stay

pub returns-clause-taken : goal.returns-clause-taken
returns-clause-taken c = others_are_taken
