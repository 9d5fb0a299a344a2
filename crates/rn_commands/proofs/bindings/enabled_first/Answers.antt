-- The table is that of the first marking.
use Rattle.std.proofs.Common.{sym, subst}
use Rattle.rn_finder.proofs.FitTokens.{initial_tokens_fit}
use Rattle.rn_search.specs.Problems.{HasFitTokens}
use Rattle.rn_commands.proofs.FirstBindings.{all_first}
use Rattle.rn_commands.proofs.bindings.enabled_first.Goals as goal

pub all_bindings-requires-clause-tokens : goal.all_bindings-requires-clause-tokens
all_bindings-requires-clause-tokens c =
    let system = c.args.system.now in
    subst (HasFitTokens system) (sym c.in_ok-table.ensures.marking)
    (initial_tokens_fit system c.requires.good)

pub returns : goal.returns
returns c =
    let system = c.args.system.now in
    all_first (λ found. found.items) system c.in_ok-table.table.marking c.args.depth
    c.all_bindings.result c.in_ok-table.ensures.marking c.all_bindings.ensures.just
    c.all_bindings.ensures.ascending
