use Rattle.std.proofs.Common.{length}
use Rattle.rn_looking.specs.Things.{IsOfEntries, IsOfEntry}
use Rattle.rn_looking.proofs.LookSteps.{looked_urged, still_urges}
use Rattle.rn_looking.proofs.looking.look_at_newest.Goals as goal

pub loop-node-preserved : goal.loop-node-preserved
loop-node-preserved c =
    let ds = c.args.branch.growing.now.decisions in
    record {
      urges = still_urges c.loop-node.best c.in_ok-look.look c.better-best.result
          c.loop-node.invariant.urges c.better-best.ensures;
      looked = looked_urged c.args.branch.problem.now ds (IsOfEntries ds (length ds))
          (IsOfEntry ds c.loop-node.node) c.loop-node.best c.in_ok-look.look
          c.better-best.result c.loop-node.invariant.urges c.loop-node.invariant.looked
          c.in_ok-look.ensures c.better-best.ensures;
    }
