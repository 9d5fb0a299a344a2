use Rattle.rn_term.proofs.MarkLemmas.{marks_lead_back}
use Rattle.rn_term.proofs.laws.marks_lead_back.Goals as goal

pub returns : goal.returns
returns c = marks_lead_back
