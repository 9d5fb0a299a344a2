use Rattle.rn_model.proofs.InitialTokens.{initial_tokens_are_sound}
use Rattle.rn_model.proofs.laws.initial_tokens_are_sound.Goals as goal

pub returns : goal.returns
returns c = initial_tokens_are_sound
