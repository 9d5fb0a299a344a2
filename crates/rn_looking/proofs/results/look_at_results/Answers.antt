-- Operator application by operator application.
use Rattle.std.proofs.Common.{◌+◌}
use Rattle.rn_looking.specs.Things.{IsOnHole, IsOnHoles}
use Rattle.rn_looking.proofs.LookSteps.{looked_both}
use Rattle.rn_looking.proofs.LookedAt.{some}
use Rattle.rn_looking.proofs.LookedResults.{one_more_hole}
use Rattle.rn_looking.proofs.results.look_at_results.Goals as goal

pub loop-k-preserved : goal.loop-k-preserved
loop-k-preserved c =
    looked_both c.args.at.problem.now c.args.at.growing.now.decisions
    (some c.args.at.problem.now c.args.at.growing.now c.args.at.node c.args.at.head.now
    c.args.at.transition.now c.requires.at)
    (IsOnHoles c.args.at.transition.now c.args.at.head.now c.loop-k.k)
    (IsOnHole c.args.at.transition.now c.args.at.head.now c.loop-k.k)
    (IsOnHoles c.args.at.transition.now c.args.at.head.now (c.loop-k.k + 1))
    (λ d on _. one_more_hole c.args.at.transition.now c.args.at.head.now c.loop-k.k d on)
    c.loop-k.best c.in_ok-look.look c.better-best.result c.loop-k.invariant c.in_ok-look.ensures
    c.better-best.ensures
