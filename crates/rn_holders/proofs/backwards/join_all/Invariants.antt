use Rattle.std.proofs.Common.{take}
use Rattle.std.specs.Prelude.{Contains}
use Rattle.rn_holders.specs.link.Puts.{Joins}
use Rattle.rn_holders.proofs.backwards.join_all.Given as goal

abbrev pub invariant-loop-number : goal.invariant-loop-number
invariant-loop-number l =
    Joins (Contains (take l.number-index l.those)) l.initial.found.keys l.found.keys
