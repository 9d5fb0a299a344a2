-- The laws, one by one.
use Rattle.rn_served.proofs.UndoneEntries.{one_outcome, undo_gives_all_back, undo_gives_back}
use Rattle.rn_served.proofs.laws.undo_laws.Goals as goal

pub returns-clause-one : goal.returns-clause-one
returns-clause-one c = undo_gives_back

pub returns-clause-all : goal.returns-clause-all
returns-clause-all c = undo_gives_all_back

pub returns-clause-outcome : goal.returns-clause-outcome
returns-clause-outcome c = one_outcome
