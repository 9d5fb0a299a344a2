use Rattle.rn_model.proofs.MarkingsOfRuns.{initial_is_marking, firings_keep_markings, runs_end_in_markings}
use Rattle.rn_model.proofs.laws.runs_end_in_markings.Goals as goal

pub returns-clause-initial : goal.returns-clause-initial
returns-clause-initial c = initial_is_marking

pub returns-clause-kept : goal.returns-clause-kept
returns-clause-kept c = firings_keep_markings

pub returns-clause-ends : goal.returns-clause-ends
returns-clause-ends c = runs_end_in_markings
