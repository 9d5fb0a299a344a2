use Rattle.rn_search.proofs.Known.{known_is_so}
use Rattle.rn_search.proofs.Offered.{start_is_offered, starts_are_kept, tokens_are_offered}
use Rattle.rn_search.proofs.Offered.{lists_are_offered, results_are_offered, calls_are_offered}
use Rattle.rn_search.proofs.laws.nothing_is_missed.Goals as goal

pub returns-clause-start : goal.returns-clause-start
returns-clause-start c = start_is_offered

pub returns-clause-starts : goal.returns-clause-starts
returns-clause-starts c = starts_are_kept

pub returns-clause-tokens : goal.returns-clause-tokens
returns-clause-tokens c = tokens_are_offered

pub returns-clause-lists : goal.returns-clause-lists
returns-clause-lists c = lists_are_offered

pub returns-clause-known : goal.returns-clause-known
returns-clause-known c = known_is_so

pub returns-clause-results : goal.returns-clause-results
returns-clause-results c = results_are_offered

pub returns-clause-calls : goal.returns-clause-calls
returns-clause-calls c = calls_are_offered
