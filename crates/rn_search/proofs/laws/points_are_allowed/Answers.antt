use Rattle.rn_search.proofs.Allowed.{start_is_allowed, tokens_are_allowed, lists_are_allowed}
use Rattle.rn_search.proofs.Allowed.{results_are_allowed, calls_are_allowed}
use Rattle.rn_search.proofs.laws.points_are_allowed.Goals as goal

pub returns-clause-start : goal.returns-clause-start
returns-clause-start c = start_is_allowed

pub returns-clause-tokens : goal.returns-clause-tokens
returns-clause-tokens c = tokens_are_allowed

pub returns-clause-lists : goal.returns-clause-lists
returns-clause-lists c = lists_are_allowed

pub returns-clause-results : goal.returns-clause-results
returns-clause-results c = results_are_allowed

pub returns-clause-calls : goal.returns-clause-calls
returns-clause-calls c = calls_are_allowed
