-- Node by node.
use Rattle.rn_agree.specs.link.Agreeing.{NodeHolds}
use Rattle.rn_agree.proofs.EachLemmas.{each_more}
use Rattle.rn_agree.proofs.agreement.nodes_hold.Goals as goal

pub loop-node-preserved : goal.loop-node-preserved
loop-node-preserved c =
    each_more (NodeHolds c.args.system.now) c.as_slice-nodes.result.now
    c.args.binding.now.nodes c.loop-node.node-index c.node-item.result c.as_slice-nodes.ensures
    c.loop-node-test.true c.node-item.is c.loop-node.invariant
    (c.in_ok-node_holds.ensures.0 c.if-not-branch.false)
