-- The decisions so far.
use Rattle.std.proofs.Common.{◌≤◌, take}
use Rattle.rn_model.specs.Lists.{count_of}
use Rattle.rn_search.specs.Taking.{taken_so_far}
use Rattle.rn_branch.proofs.taken_up.times_taken.Given as goal

abbrev pub invariant-loop-i : goal.invariant-loop-i
invariant-loop-i l = (l.times ≤ l.i)
    × (l.times
    ≤ count_of l.taking.token.now
    (taken_so_far l.system l.taking.inst.now l.taking.place (take l.i l.decisions)))
