-- A look at one arc more, which may count as another number.
use Rattle.std.proofs.Common.{length}
use Rattle.rn_growing.proofs.Growth.{at_in}
use Rattle.rn_looking.specs.Looks.{Looked}
use Rattle.rn_looking.specs.Things.{IsOnArc, IsOnArcs}
use Rattle.rn_looking.proofs.LookSteps.{looked_narrowed, looked_urged, still_urges}
use Rattle.rn_looking.proofs.arcs.look_by_guards.Goals as goal
use Rattle.rn_looking.proofs.arcs.look_by_guards.Goals.{After-better-best}

both : (c : After-better-best) → Looked c.args.at.problem.now c.args.at.growing.now.decisions
    (IsOnArcs c.args.at.head.now (length c.args.at.transition.now.arcs)) c.better-best.result
both c =
    looked_urged c.args.at.problem.now c.args.at.growing.now.decisions
    (IsOnArcs c.args.at.head.now (length c.args.at.transition.now.arcs))
    (IsOnArc c.args.at.head.now c.loop-k.k) c.loop-k.best c.in_ok-look-2.look c.better-best.result
    c.loop-k.invariant.urges c.loop-k.invariant.looked
    (looked_narrowed c.args.at.problem.now c.args.at.growing.now.decisions
    (IsOnArc c.args.at.head.now c.loop-k.k) c.in_ok-look.look c.in_ok-look-2.look
    c.in_ok-look.ensures c.in_ok-look-2.ensures) c.better-best.ensures

pub loop-k-preserved : goal.loop-k-preserved
loop-k-preserved c = record {
  urges = still_urges c.loop-k.best c.in_ok-look-2.look c.better-best.result
      c.loop-k.invariant.urges c.better-best.ensures;
  looked = both (goal.at.loop-k-preserved c).After-better-best;
}

pub returns-then-is_best : goal.returns-then-is_best
returns-then-is_best c = both (goal.at.returns-then-is_best c).After-better-best

pub narrowed-requires-clause-there : goal.narrowed-requires-clause-there
narrowed-requires-clause-there c =
    at_in c.args.at.transition.now.arcs c.loop-k.k c.arc_at-arc.result.now c.arc_at-arc.ensures
