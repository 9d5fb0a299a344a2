-- The lines of a least run that is counted.
use Rattle.std.proofs.Common.{inr}
use Rattle.rn_commands.proofs.Counted.{counts_to}
use Rattle.rn_commands.proofs.counting.counts.Goals as goal

pub returns : goal.returns
returns c =
    inr (counts_to c.in_ok-system.system c.args.options c.in_ok-run.run'.state c.in_ok-run.run'.counts c.in_ok-counted.field-0
    c.args.bytes.now c.in_ok-system.ensures.accepted c.in_ok-run.ensures c.in_ok-counted.ensures)
