use Rattle.rn_model.proofs.SoundAfter.{firings_keep_tokens_sound}
use Rattle.rn_model.proofs.SoundRuns.{runs_end_sound}
use Rattle.rn_model.proofs.laws.tokens_stay_sound.Goals as goal

pub returns-clause-kept : goal.returns-clause-kept
returns-clause-kept c = firings_keep_tokens_sound

pub returns-clause-ends : goal.returns-clause-ends
returns-clause-ends c = runs_end_sound
