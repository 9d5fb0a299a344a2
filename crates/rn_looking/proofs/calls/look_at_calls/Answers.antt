-- One call more is looked at in each turn.
use Rattle.std.proofs.Common.{◌≡◌, ◌+◌, length, subst, arith}
use Rattle.rn_looking.specs.Looks.{Looked}
use Rattle.rn_looking.specs.Things.{IsOnCall, IsOnCalls}
use Rattle.rn_looking.proofs.LookSteps.{looked_best, looked_both, looked_none}
use Rattle.rn_looking.proofs.LookedAt.{some}
use Rattle.rn_looking.proofs.NodeLooks.{no_calls, one_more_call}
use Rattle.rn_looking.proofs.calls.look_at_calls.Goals as goal

pub loop-i-init : goal.loop-i-init
loop-i-init c =
    looked_none c.args.at.problem.now c.args.at.growing.now.decisions
    (IsOnCalls c.args.at.head.now 0)
    (no_calls c.args.at.head.now)

pub loop-i-preserved : goal.loop-i-preserved
loop-i-preserved c =
    looked_both c.args.at.problem.now c.args.at.growing.now.decisions
    (some c.args.at.problem.now c.args.at.growing.now c.args.at.node c.args.at.head.now
    c.args.at.transition.now c.requires)
    (IsOnCalls c.args.at.head.now c.loop-i.i) (IsOnCall c.args.at.head.now c.loop-i.i)
    (IsOnCalls c.args.at.head.now (c.loop-i.i + 1))
    (λ d on asked. one_more_call c.args.at.head.now c.loop-i.i d on)
    c.loop-i.best c.in_ok-look.look c.better-best.result c.loop-i.invariant
    c.in_ok-look.ensures c.better-best.ensures

pub returns-then-is_best : goal.returns-then-is_best
returns-then-is_best c =
    looked_best c.args.at.problem.now c.args.at.growing.now.decisions
    (IsOnCalls c.args.at.head.now (c.loop-i.i + 1))
    (IsOnCalls c.args.at.head.now (length c.args.at.transition.now.downlinks)) c.better-best.result
    (looked_both c.args.at.problem.now c.args.at.growing.now.decisions
    (some c.args.at.problem.now c.args.at.growing.now c.args.at.node c.args.at.head.now
    c.args.at.transition.now c.requires)
    (IsOnCalls c.args.at.head.now c.loop-i.i) (IsOnCall c.args.at.head.now c.loop-i.i)
    (IsOnCalls c.args.at.head.now (c.loop-i.i + 1))
    (λ d on asked. one_more_call c.args.at.head.now c.loop-i.i d on)
    c.loop-i.best c.in_ok-look.look c.better-best.result c.loop-i.invariant
    c.in_ok-look.ensures c.better-best.ensures)
    (c.is_best.ensures c.if-is_best.true)

pub returns : goal.returns
returns c =
    let end : c.loop-i.i ≡ length c.args.at.transition.now.downlinks = omega arith in
    subst (λ n. Looked c.args.at.problem.now c.args.at.growing.now.decisions
    (IsOnCalls c.args.at.head.now n) c.loop-i.best) end c.loop-i.invariant
