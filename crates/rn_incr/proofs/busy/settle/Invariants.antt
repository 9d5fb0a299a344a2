use Rattle.std.proofs.Common.{drop}
use Rattle.rn_incr.specs.link.Kept.{AreNear}
use Rattle.rn_incr.proofs.busy.settle.Given as goal

abbrev pub invariant-loop-number : goal.invariant-loop-number
invariant-loop-number l = AreNear l.lists (drop l.number-index l.numbers) l.busy
