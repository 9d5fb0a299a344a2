-- By its operator applications, its arcs and its calls.
use Rattle.std.proofs.Common.{length}
use Rattle.rn_search.specs.Points.{holes_of}
use Rattle.rn_looking.specs.Things.{IsOfNode, IsOnArcs, IsOnCalls, IsOnHoles}
use Rattle.rn_looking.proofs.LookSteps.{looked_best, looked_both}
use Rattle.rn_looking.proofs.LookedAt.{some}
use Rattle.rn_looking.proofs.NodeLooks.{IsOfValues, node_is_covered}
use Rattle.rn_looking.proofs.looking.look_within.Goals as goal

pub returns-then-is_best : goal.returns-then-is_best
returns-then-is_best c =
    let t = c.args.at.transition.now in
    let head = c.args.at.head.now in
    looked_best c.args.at.problem.now c.args.at.growing.now.decisions
    (IsOnHoles t head (length (holes_of t))) (IsOfNode head) c.in_ok-results.results c.in_ok-results.ensures
    (c.is_best.ensures c.if-is_best.true)

pub returns-then-is_best-2 : goal.returns-then-is_best-2
returns-then-is_best-2 c =
    let t = c.args.at.transition.now in
    let head = c.args.at.head.now in
    looked_best c.args.at.problem.now c.args.at.growing.now.decisions (IsOfValues t head)
    (IsOfNode head) c.better-both.result
    (looked_both c.args.at.problem.now c.args.at.growing.now.decisions
    (some c.args.at.problem.now c.args.at.growing.now c.args.at.node head t c.requires.at)
    (IsOnHoles t head (length (holes_of t))) (IsOnArcs head (length t.arcs)) (IsOfValues t head)
    (λ d of asked. of) c.in_ok-results.results c.in_ok-arcs.arcs c.better-both.result
    c.in_ok-results.ensures c.in_ok-arcs.ensures c.better-both.ensures)
    (c.is_best-2.ensures c.if-is_best-2.true)

pub returns : goal.returns
returns c =
    let t = c.args.at.transition.now in
    let head = c.args.at.head.now in
    let ds = c.args.at.growing.now.decisions in
    let any =
    some c.args.at.problem.now c.args.at.growing.now c.args.at.node head t c.requires.at in
    looked_both c.args.at.problem.now ds any
    (IsOfValues t head) (IsOnCalls head (length t.downlinks)) (IsOfNode head)
    (node_is_covered c.args.at.problem.now.system ds head t c.requires.at.transition)
    c.better-both.result c.in_ok-calls.calls c.better.result
    (looked_both c.args.at.problem.now ds any
    (IsOnHoles t head (length (holes_of t))) (IsOnArcs head (length t.arcs)) (IsOfValues t head)
    (λ d of asked. of) c.in_ok-results.results c.in_ok-arcs.arcs c.better-both.result
    c.in_ok-results.ensures c.in_ok-arcs.ensures c.better-both.ensures)
    c.in_ok-calls.ensures c.better.ensures
