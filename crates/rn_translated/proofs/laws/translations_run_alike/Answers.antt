use Rattle.rn_translated.proofs.RunsAlike.{runs_correspond, ends_correspond}
use Rattle.rn_translated.proofs.RunsAlike.{one_instance_alone, runs_have_occurrences}
use Rattle.rn_translated.proofs.RunsAlike.{each_run_is_weighted}
use Rattle.rn_translated.proofs.laws.translations_run_alike.Goals as goal

pub returns-clause-runs : goal.returns-clause-runs
returns-clause-runs c = runs_correspond

pub returns-clause-ends : goal.returns-clause-ends
returns-clause-ends c = ends_correspond

pub returns-clause-alone : goal.returns-clause-alone
returns-clause-alone c = one_instance_alone

pub returns-clause-occurrences : goal.returns-clause-occurrences
returns-clause-occurrences c = runs_have_occurrences

pub returns-clause-each : goal.returns-clause-each
returns-clause-each c = each_run_is_weighted
