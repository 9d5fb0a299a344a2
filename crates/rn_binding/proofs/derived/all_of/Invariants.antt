-- The indices so far, the last ones.
use Rattle.std.proofs.Common.{◌≤◌, drop, length, map}
use Rattle.rn_binding.specs.link.Parts.{item_of, picked, AllWithin, HaveTheSame}
use Rattle.rn_binding.proofs.derived.all_of.Given as goal

abbrev pub invariant-loop-i : goal.invariant-loop-i
invariant-loop-i l = record {
  same : HaveTheSame (picked l.parts l.all.items) (map item_of (drop l.i l.parts));
  within : AllWithin l.parts l.all.items;
  room : l.i ≤ length l.parts;
}

abbrev pub decreases-loop-i : goal.decreases-loop-i
decreases-loop-i l = l.i
