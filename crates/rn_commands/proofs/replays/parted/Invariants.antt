-- The lines so far go before the parts of those that are left.
use Rattle.std.proofs.Common.{◌-◌, length}
use Rattle.rn_commands.proofs.PartLemmas.{IsPastLines}
use Rattle.rn_commands.proofs.replays.parted.Given as goal

abbrev pub invariant-loop-at : goal.invariant-loop-at
invariant-loop-at l = IsPastLines l.bytes l.at

abbrev pub decreases-loop-at : goal.decreases-loop-at
decreases-loop-at l = length l.bytes - l.at
