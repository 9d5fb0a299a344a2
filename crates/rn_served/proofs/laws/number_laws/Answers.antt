-- By the order of the list.
use Rattle.rn_served.proofs.NumberedBindings.{numbers_are_of_list}
use Rattle.rn_served.proofs.laws.number_laws.Goals as goal

pub returns : goal.returns
returns c = numbers_are_of_list
