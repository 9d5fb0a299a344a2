use Rattle.rn_model.proofs.SoundAfter.{firings_report_what_is_there}
use Rattle.rn_model.proofs.laws.firings_report_what_is_there.Goals as goal

pub returns : goal.returns
returns c = firings_report_what_is_there
