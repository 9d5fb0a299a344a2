use Rattle.rn_check.proofs.GoodSystems.{checked_texts_are_good}
use Rattle.rn_check.proofs.laws.checked_texts_are_good.Goals as goal

pub returns : goal.returns
returns c = checked_texts_are_good
