use Rattle.std.proofs.Common.{arith}
use Rattle.rn_commands.proofs.LastReasons.{entries_but_end}
use Rattle.rn_commands.proofs.ends.fired_count.Goals as goal

pub returns-clause-count : goal.returns-clause-count
returns-clause-count c =
    let all = entries_but_end c.args.state.now c.requires in
    let entries = c.length.ensures.length in
    let less = c.saturating_sub.ensures in
    omega (arith, all, entries, less)
