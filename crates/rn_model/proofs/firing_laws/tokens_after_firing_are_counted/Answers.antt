use Rattle.rn_model.proofs.CountsAfterFiring.{old_tokens_after_firing, new_tokens_after_firing}
use Rattle.rn_model.proofs.firing_laws.tokens_after_firing_are_counted.Goals as goal

pub returns-clause-old : goal.returns-clause-old
returns-clause-old c = old_tokens_after_firing

pub returns-clause-new : goal.returns-clause-new
returns-clause-new c = new_tokens_after_firing
