use Rattle.rn_finder.proofs.FitTokens.{initial_tokens_fit, standing_tokens_fit}
use Rattle.rn_finder.proofs.laws.tokens_fit.Goals as goal

pub returns-clause-initial : goal.returns-clause-initial
returns-clause-initial c = initial_tokens_fit

pub returns-clause-standing : goal.returns-clause-standing
returns-clause-standing c = standing_tokens_fit
