use Rattle.rn_spelled.proofs.SpelledTexts.{spelled_forms_are_well_formed}
use Rattle.rn_spelled.proofs.laws.spelled_forms_are_well_formed.Goals as goal

pub returns : goal.returns
returns c = spelled_forms_are_well_formed
