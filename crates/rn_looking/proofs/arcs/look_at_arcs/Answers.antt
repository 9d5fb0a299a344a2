-- One arc more is looked at in each turn.
use Rattle.std.proofs.Common.{◌≡◌, ◌+◌, length, subst, arith}
use Rattle.rn_looking.specs.Looks.{Looked}
use Rattle.rn_looking.specs.Things.{IsOnArc, IsOnArcs}
use Rattle.rn_looking.proofs.LookSteps.{looked_best, looked_both, looked_none}
use Rattle.rn_looking.proofs.LookedAt.{some}
use Rattle.rn_looking.proofs.NodeLooks.{no_arcs, one_more_arc}
use Rattle.rn_looking.proofs.arcs.look_at_arcs.Goals as goal

pub loop-k-init : goal.loop-k-init
loop-k-init c =
    looked_none c.args.at.problem.now c.args.at.growing.now.decisions
    (IsOnArcs c.args.at.head.now 0)
    (no_arcs c.args.at.head.now)

pub loop-k-preserved : goal.loop-k-preserved
loop-k-preserved c =
    looked_both c.args.at.problem.now c.args.at.growing.now.decisions
    (some c.args.at.problem.now c.args.at.growing.now c.args.at.node c.args.at.head.now
    c.args.at.transition.now c.requires)
    (IsOnArcs c.args.at.head.now c.loop-k.k) (IsOnArc c.args.at.head.now c.loop-k.k)
    (IsOnArcs c.args.at.head.now (c.loop-k.k + 1))
    (λ d on asked. one_more_arc c.args.at.head.now c.loop-k.k d on)
    c.loop-k.best c.in_ok-look.look c.better-best.result c.loop-k.invariant
    c.in_ok-look.ensures c.better-best.ensures

pub returns-then-is_best : goal.returns-then-is_best
returns-then-is_best c =
    looked_best c.args.at.problem.now c.args.at.growing.now.decisions
    (IsOnArcs c.args.at.head.now (c.loop-k.k + 1))
    (IsOnArcs c.args.at.head.now (length c.args.at.transition.now.arcs)) c.better-best.result
    (looked_both c.args.at.problem.now c.args.at.growing.now.decisions
    (some c.args.at.problem.now c.args.at.growing.now c.args.at.node c.args.at.head.now
    c.args.at.transition.now c.requires)
    (IsOnArcs c.args.at.head.now c.loop-k.k) (IsOnArc c.args.at.head.now c.loop-k.k)
    (IsOnArcs c.args.at.head.now (c.loop-k.k + 1))
    (λ d on asked. one_more_arc c.args.at.head.now c.loop-k.k d on)
    c.loop-k.best c.in_ok-look.look c.better-best.result c.loop-k.invariant
    c.in_ok-look.ensures c.better-best.ensures)
    (c.is_best.ensures c.if-is_best.true)

pub returns : goal.returns
returns c =
    let end : c.loop-k.k ≡ length c.args.at.transition.now.arcs = omega arith in
    subst (λ n. Looked c.args.at.problem.now c.args.at.growing.now.decisions
    (IsOnArcs c.args.at.head.now n) c.loop-k.best) end c.loop-k.invariant
