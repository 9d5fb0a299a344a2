-- Arc by arc.
use Rattle.std.proofs.Common.{sym, subst}
use Rattle.std.specs.Prelude.{All}
use Rattle.rn_arcs.specs.FitInscriptions.{IsFitArc}
use Rattle.rn_acts.specs.link.Acting.{env_acting}
use Rattle.rn_acts.proofs.outputs.put_outputs.Goals as goal

pub put_arc-requires : goal.put_arc-requires
put_arc-requires c =
    let IsFit = IsFitArc (env_acting c.args.acting.now) in
    let fit = subst (All IsFit) (sym c.as_slice-arc-items.ensures) c.requires.fit in
    let here = subst IsFit (sym c.arc-item.is)
    (fit c.loop-arc.arc-index c.arc-item.result c.loop-arc-test.true) in
    record { fit = here }
