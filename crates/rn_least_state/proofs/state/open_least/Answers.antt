-- The log of no entries is a least log.
use Rattle.std.proofs.Common.{sym, subst}
use Rattle.rn_least_state.specs.LeastStates.{HasLeastLog}
use Rattle.rn_least_state.proofs.LeastLogs.{starts_least}
use Rattle.rn_least_state.proofs.state.open_least.Goals as goal

pub invariant_of-result : goal.invariant_of-result
invariant_of-result c =
    subst HasLeastLog (sym c.in_ok-state.ensures.state)
    (starts_least c.args.system.value c.args.options)
