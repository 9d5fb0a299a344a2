-- The search at the table of a state.
use Rattle.std.proofs.Common.{sym, subst}
use Rattle.rn_search.specs.Problems.{HasFitTokens}
use Rattle.rn_replay.proofs.SearchedStates.{dead_there}
use Rattle.rn_replay.proofs.SearchedStates.{tokens_of_state}
use Rattle.rn_replay.proofs.searching.is_dead.Goals as goal

pub find-requires-clause-tokens : goal.find-requires-clause-tokens
find-requires-clause-tokens c =
    let s = c.args.state.now in
    subst (λ t. HasFitTokens c.system-system.result.now t.marking) (sym c.table-table.ensures.table)
    (subst (λ x. HasFitTokens x s.table.marking) (sym c.system-system.ensures.system)
    (tokens_of_state s c.length-length.ensures.state))

pub returns : goal.returns
returns c =
    let s = c.args.state.now in
    dead_there s c.system-system.result.now c.table-table.result.now c.args.depth c.in_ok-found.found c.is_none.result
    c.system-system.ensures.system c.table-table.ensures.table c.is_none.ensures c.in_ok-found.ensures.none
