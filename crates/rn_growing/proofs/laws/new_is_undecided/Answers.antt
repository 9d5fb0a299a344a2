-- By the tests for entries, arcs and operator applications.
use Rattle.rn_growing.proofs.NewThings.{new_entries, new_finds, new_values}
use Rattle.rn_growing.proofs.laws.new_is_undecided.Goals as goal

pub returns-clause-entry : goal.returns-clause-entry
returns-clause-entry c = new_entries

pub returns-clause-found : goal.returns-clause-found
returns-clause-found c = new_finds

pub returns-clause-computed : goal.returns-clause-computed
returns-clause-computed c = new_values
