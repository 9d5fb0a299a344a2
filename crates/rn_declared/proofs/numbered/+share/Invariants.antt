-- Whether all patterns share kinds is whether those from here on do.
use Rattle.std.proofs.Common.{◌≡◌, map, drop}
use Rattle.rn_declared.specs.Patterns.{share, all_share}
use Rattle.rn_declared.proofs.numbered.+share.Given as goal

abbrev pub invariant-all_share-loop-i : goal.invariant-all_share-loop-i
invariant-all_share-loop-i g l =
    all_share (map share (drop l.i l.parts)) (drop l.i l.others) ≡ all_share (map share l.parts) l.others
