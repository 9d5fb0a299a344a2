use Rattle.rn_calc.specs.link.NodeValues.{lent_env}
use Rattle.rn_arcs.proofs.FitInscriptions.{fit_on}
use Rattle.rn_arcs.proofs.filling.add_node.Goals as goal

pub add_arc-requires-clause-fit : goal.add_arc-requires-clause-fit
add_arc-requires-clause-fit c =
    fit_on c.args.system.now c.args.node.now c.in-Some.transition.now
    (lent_env c.new-values.result) c.as_slice-arc-items.result.now c.arc-item.result
    c.loop-arc.arc-index c.requires.fit c.in-Some.ensures c.new-values.ensures
    c.as_slice-arc-items.ensures c.loop-arc-test.true c.arc-item.is
