use Rattle.rn_term.proofs.MarkLemmas.{marks_stay}
use Rattle.rn_term.proofs.laws.marks_stay.Goals as goal

pub returns : goal.returns
returns c = marks_stay
