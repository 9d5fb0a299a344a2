-- One decision more is looked at in each turn.
use Rattle.std.proofs.Common.{◌≡◌, ◌+◌, ◌<◌, ◌≤◌, length, subst, sym, arith}
use Rattle.rn_looking.specs.Looks.{Looked}
use Rattle.rn_looking.specs.Settling.{AreSettled}
use Rattle.rn_looking.specs.Things.{IsOfEntries, IsOfEntry}
use Rattle.rn_looking.proofs.LookSteps.{looked_best, looked_both}
use Rattle.rn_looking.proofs.NodeLooks.{one_more_entry}
use Rattle.rn_looking.proofs.SettledLooks.{settled_by_look}
use Rattle.rn_looking.proofs.looking.look_at_rest.Goals as goal
use Rattle.rn_looking.proofs.looking.look_at_rest.Goals.{After-better-best, then-is_done, else-is_done}

more : (c : After-better-best) →
    Looked c.args.branch.problem.now c.args.branch.growing.now.decisions
    (IsOfEntries c.args.branch.growing.now.decisions (c.loop-node.node + 1)) c.better-best.result
more c =
    let ds = c.args.branch.growing.now.decisions in
    let some : 0 < length ds = omega arith in
    looked_both c.args.branch.problem.now ds some
    (IsOfEntries ds c.loop-node.node) (IsOfEntry ds c.loop-node.node)
    (IsOfEntries ds (c.loop-node.node + 1))
    (λ d of asked. one_more_entry ds c.loop-node.node d of)
    c.loop-node.best c.in_ok-look.look c.better-best.result c.loop-node.invariant.looked
    c.in_ok-look.ensures c.better-best.ensures

pub loop-node-init : goal.loop-node-init
loop-node-init c = record {
  looked = c.requires.settled.decided;
  settled = c.requires.settled;
}

pub loop-node-preserved : goal.loop-node-preserved
loop-node-preserved c =
    let ds = c.args.branch.growing.now.decisions in
    let at = (goal.at.loop-node-preserved c).After-better-best in
    let low : c.loop-node.node + 1 ≤ length ds = omega arith in
    elim c.if-is_done.branch [
      | then-is_done w ↦ record {
        looked = more at;
        settled = subst (AreSettled c.args.branch.problem.now.system ds) (sym w.settled-is)
            (settled_by_look c.args.branch.problem.now ds (c.loop-node.node + 1)
            c.better-best.result low (c.is_done.ensures w.if-is_done.true) (more at));
      }
      | else-is_done w ↦ record {
        looked = more at;
        settled = subst (AreSettled c.args.branch.problem.now.system ds) (sym w.settled-is)
            c.loop-node.invariant.settled;
      }
    ]

pub returns-then-is_best : goal.returns-then-is_best
returns-then-is_best c =
    let ds = c.args.branch.growing.now.decisions in (
      looked_best c.args.branch.problem.now ds (IsOfEntries ds (c.loop-node.node + 1))
          (IsOfEntries ds (length ds)) c.better-best.result
          (more (goal.at.returns-then-is_best c).After-better-best)
          (c.is_best.ensures c.if-is_best.true),
      c.loop-node.invariant.settled,
    )

pub returns : goal.returns
returns c =
    let ds = c.args.branch.growing.now.decisions in
    let within = c.requires.settled.within in
    let end : c.loop-node.node ≡ length ds = omega (arith, within) in (
      subst (λ n. Looked c.args.branch.problem.now ds (IsOfEntries ds n) c.loop-node.best) end
          c.loop-node.invariant.looked,
      c.loop-node.invariant.settled,
    )
