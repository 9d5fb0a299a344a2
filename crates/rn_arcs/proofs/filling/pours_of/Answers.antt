use Rattle.rn_arcs.proofs.FitInscriptions.{fit_at}
use Rattle.rn_arcs.proofs.filling.pours_of.Goals as goal

pub add_node-requires : goal.add_node-requires
add_node-requires c =
    record {
      fit = fit_at c.args.system.now c.args.binding.now c.as_slice-node-items.result.now
          c.node-item.result c.loop-node.node-index c.requires.fit c.as_slice-node-items.ensures
          c.loop-node-test.true c.node-item.is;
    }
