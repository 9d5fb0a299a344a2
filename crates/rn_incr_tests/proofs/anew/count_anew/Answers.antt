-- The table of a state has tokens that fit.
use Rattle.std.proofs.Common.{sym, subst}
use Rattle.rn_model.specs.declared.system.System.{System}
use Rattle.rn_search.specs.Problems.{HasFitTokens}
use Rattle.rn_table.specs.Tables.{Kept, IsTableOf}
use Rattle.rn_incr.proofs.RunningLemmas.{fit_tokens}
use Rattle.rn_incr_tests.proofs.anew.count_anew.Goals as goal

pub all_bindings-requires-clause-table : goal.all_bindings-requires-clause-table
all_bindings-requires-clause-table c =
    subst (λ (x : System). IsTableOf x c.table.result.now) (sym c.system-system.ensures.system)
    c.table.ensures.of_system

pub all_bindings-requires-clause-tokens : goal.all_bindings-requires-clause-tokens
all_bindings-requires-clause-tokens c =
    let s = c.args.state.now in
    subst (λ (t : Kept). HasFitTokens c.system-system.result.now t.marking)
    (sym c.table.ensures.table)
    (subst (λ (x : System). HasFitTokens x s.table.marking) (sym c.system-system.ensures.system)
    (fit_tokens s c.length-length.ensures.state))
