-- Past the end nothing is left to be reported.
use Rattle.std.proofs.Common.{◌∙◌, ap, sym, arith}
use Rattle.rn_declared.specs.Faults.{first_from}
use Rattle.rn_rules.proofs.CallLemmas.{misfits_past}
use Rattle.rn_rules.proofs.calls.tell_misfits.Goals as goal

pub returns : goal.returns
returns g c =
    ap (first_from c.loop-i.first.fault)
    (sym (misfits_past c.args.sights.now c.args.patterns.now c.loop-i.i (omega arith)))
    ∙ c.loop-i.invariant
