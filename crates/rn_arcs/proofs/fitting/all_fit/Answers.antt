use Rattle.rn_model.specs.Markings.{tokens}
use Rattle.rn_arcs.specs.link.Meeting.{Meets}
use Rattle.rn_arcs.proofs.TokenLemmas.{holds_more}
use Rattle.rn_arcs.proofs.fitting.all_fit.Goals as goal

pub loop-asked-preserved : goal.loop-asked-preserved
loop-asked-preserved c =
    holds_more (λ g. Meets (tokens c.args.table.now.marking g.inst g.place) g)
    c.args.places.now c.loop-asked.asked-index c.asked-item.result c.loop-asked-test.true
    c.asked-item.is c.loop-asked.invariant (c.place_fits.ensures.0 c.if-not-place_fits.false)
