-- Node by node.
use Rattle.rn_agree.specs.link.Parts.{IsLinked}
use Rattle.rn_agree.proofs.EachLemmas.{each_more}
use Rattle.rn_agree.proofs.shape.are_linked.Goals as goal

pub loop-node-preserved : goal.loop-node-preserved
loop-node-preserved c =
    each_more (IsLinked c.args.system.now c.args.binding.now) c.as_slice-nodes.result.now
    c.args.binding.now.nodes c.loop-node.node-index c.node-item.result c.as_slice-nodes.ensures
    c.loop-node-test.true c.node-item.is c.loop-node.invariant
    (c.is_linked.ensures.0 c.if-not-is_linked.false)
