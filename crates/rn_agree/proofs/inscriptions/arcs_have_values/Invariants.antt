use Rattle.std.proofs.Common.{ℕ, ◌<◌, get_or}
use Rattle.rn_model.specs.declared.system.NetArc.{NetArc}
use Rattle.rn_agree.specs.link.Agreeing.{ArcHasValue}
use Rattle.rn_calc.specs.link.NodeValues.{lent_env}
use Rattle.rn_agree.proofs.inscriptions.arcs_have_values.Given as goal

abbrev pub invariant-loop-arc : goal.invariant-loop-arc
invariant-loop-arc l = (k : ℕ) (d : NetArc) → k < l.arc-index →
    ArcHasValue l.transition (lent_env l.values) (get_or l.transition.arcs k d)
