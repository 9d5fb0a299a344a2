-- Arc by arc.
use Rattle.rn_calc.specs.link.NodeValues.{lent_env}
use Rattle.rn_agree.specs.link.Agreeing.{IsFitArc}
use Rattle.rn_agree.proofs.EachLemmas.{each_at}
use Rattle.rn_agree.proofs.inscriptions.arcs_have_values.Goals as goal

pub arc_has_value-requires : goal.arc_has_value-requires
arc_has_value-requires c =
    let fit = each_at (IsFitArc (lent_env c.args.values.now)) c.as_slice-arc-items.result.now
    c.args.transition.now.arcs c.loop-arc.arc-index c.arc-item.result c.as_slice-arc-items.ensures
    c.loop-arc-test.true c.arc-item.is c.requires.fit in
    record { fit = fit }
