-- What was reported, and what is to be reported of those that are left, are all.
use Rattle.std.proofs.Common.{◌≡◌, drop}
use Rattle.rn_declared.specs.Faults.{first_from}
use Rattle.rn_rules.specs.link.Sights.{misfits_of}
use Rattle.rn_rules.proofs.calls.tell_misfits.Given as goal

abbrev pub invariant-loop-i : goal.invariant-loop-i
invariant-loop-i g l =
    first_from l.first.fault (misfits_of (drop l.i l.sights) (drop l.i l.patterns))
    ≡ first_from l.initial.first.fault (misfits_of l.sights l.patterns)
