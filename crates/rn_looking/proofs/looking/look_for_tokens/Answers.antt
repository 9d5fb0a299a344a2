-- The look at the arcs, which may count as another number.
use Rattle.std.proofs.Common.{length}
use Rattle.rn_looking.specs.Things.{IsOnArcs}
use Rattle.rn_looking.proofs.LookSteps.{looked_narrowed}
use Rattle.rn_looking.proofs.looking.look_for_tokens.Goals as goal

pub returns : goal.returns
returns c =
    looked_narrowed c.args.at.problem.now c.args.at.growing.now.decisions
    (IsOnArcs c.args.at.head.now (length c.args.at.transition.now.arcs)) c.in_ok-look.look
    c.weighed.result c.in_ok-look.ensures c.weighed.ensures
