-- The keys so far are chained.
use Rattle.std.proofs.Common.{◌≡◌, length, take}
use Rattle.rn_chains.specs.link.Chains.{AreChained}
use Rattle.rn_chains.proofs.chains.spread.Given as goal

abbrev pub invariant-loop-i : goal.invariant-loop-i
invariant-loop-i l = record {
  chained : AreChained (take l.i l.keys) l.links.befores.items l.links.buckets.items;
  wide : length l.links.buckets.items ≡ l.wide;
}
