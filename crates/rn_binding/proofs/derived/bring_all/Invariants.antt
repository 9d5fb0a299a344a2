-- What is left after the passes so far.
use Rattle.std.proofs.Common.{length}
use Rattle.rn_binding.specs.link.Parts.{picked, AllWithin}
use Rattle.rn_binding.specs.link.Passing.{AreLeft}
use Rattle.rn_binding.proofs.derived.bring_all.Given as goal

abbrev pub invariant-loop-pending : goal.invariant-loop-pending
invariant-loop-pending l =
    AreLeft l.subject.system.now l.subject.binding.now l.growing (picked l.parts l.pending.items)
    × AllWithin l.parts l.pending.items

abbrev pub decreases-loop-pending : goal.decreases-loop-pending
decreases-loop-pending l = length l.pending.items
