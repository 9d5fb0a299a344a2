use Rattle.rn_growing.proofs.MoreDecisions.{new_after_one, entered_by_more, forced_by_more}
use Rattle.rn_growing.proofs.MoreDecisions.{may_come_by_more}
use Rattle.rn_growing.proofs.laws.more_decisions.Goals as goal

pub returns-clause-fresh : goal.returns-clause-fresh
returns-clause-fresh c = new_after_one

pub returns-clause-entered : goal.returns-clause-entered
returns-clause-entered c = entered_by_more

pub returns-clause-forced : goal.returns-clause-forced
returns-clause-forced c = forced_by_more

pub returns-clause-may_come : goal.returns-clause-may_come
returns-clause-may_come c = may_come_by_more
