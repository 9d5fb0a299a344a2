use Rattle.rn_model.proofs.Rounds.{may_enter_by_more, forced_by_more, stays_in}
use Rattle.rn_model.proofs.round_laws.more_items_force_more.Goals as goal

pub returns-clause-stays : goal.returns-clause-stays
returns-clause-stays c = stays_in

pub returns-clause-enter : goal.returns-clause-enter
returns-clause-enter c = may_enter_by_more

pub returns-clause-forced : goal.returns-clause-forced
returns-clause-forced c = forced_by_more
