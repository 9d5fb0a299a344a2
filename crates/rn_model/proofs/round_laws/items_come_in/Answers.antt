use Rattle.rn_model.proofs.Rounds.{rounds_hold_them, closed_are_rounds, closed_decide}
use Rattle.rn_model.proofs.round_laws.items_come_in.Goals as goal

pub returns-clause-rounds : goal.returns-clause-rounds
returns-clause-rounds c = rounds_hold_them

pub returns-clause-closed : goal.returns-clause-closed
returns-clause-closed c = closed_are_rounds

pub returns-clause-derived : goal.returns-clause-derived
returns-clause-derived c = closed_decide
