-- The patterns so far, and those of what is left, are all.
use Rattle.std.proofs.Common.{◌≡◌, ◌++◌, map, drop}
use Rattle.rn_declared.specs.Patterns.{both_of, all_both}
use Rattle.rn_declared.proofs.numbered.+both.Given as goal

abbrev pub invariant-tuple_both-loop-i : goal.invariant-tuple_both-loop-i
invariant-tuple_both-loop-i g l =
    l.patterns.items ++ all_both (map both_of (drop l.i l.parts)) (drop l.i l.others)
    ≡ all_both (map both_of l.parts) l.others
