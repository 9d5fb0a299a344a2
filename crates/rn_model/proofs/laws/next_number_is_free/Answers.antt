use Rattle.rn_model.proofs.NextNumber.{next_is_free}
use Rattle.rn_model.proofs.laws.next_number_is_free.Goals as goal

pub returns : goal.returns
returns c = next_is_free
