-- The items that were tried so far, the last ones, and those of them that are left.
use Rattle.std.proofs.Common.{◌≤◌, drop, length}
use Rattle.rn_binding.specs.link.Parts.{picked, AllWithin}
use Rattle.rn_binding.specs.link.Passing.{IsPassed}
use Rattle.rn_binding.proofs.derived.pass.Given as goal

abbrev pub invariant-loop-k : goal.invariant-loop-k
invariant-loop-k l = record {
  passed : IsPassed l.subject.system.now l.subject.binding.now l.initial.growing (picked l.parts (drop l.k l.pending))
      l.growing (picked l.parts l.left.items);
  within : AllWithin l.parts l.left.items;
  room : l.k ≤ length l.pending;
}

abbrev pub decreases-loop-k : goal.decreases-loop-k
decreases-loop-k l = l.k
