use Rattle.rn_model.proofs.NumberedDemands.{numbering_keeps_demands, firings_move_tokens}
use Rattle.rn_model.proofs.firing_laws.firings_move_tokens.Goals as goal

pub returns-clause-demands : goal.returns-clause-demands
returns-clause-demands c = numbering_keeps_demands

pub returns-clause-moved : goal.returns-clause-moved
returns-clause-moved c = firings_move_tokens
