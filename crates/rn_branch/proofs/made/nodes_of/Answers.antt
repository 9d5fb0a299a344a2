-- Decision by decision.
use Rattle.std.proofs.Common.{◌∙◌, ◌+◌, ap, sym, subst, refl, take, arith}
use Rattle.std.proofs.lemmas.List.{take_all}
use Rattle.rn_branch.specs.Making.{AreMadeNodes}
use Rattle.rn_branch.proofs.MadeSteps.{enters_none, head_is_there, no_more_nodes}
use Rattle.rn_branch.proofs.MadeSteps.{one_more_node, one_not_forced}
use Rattle.rn_branch.proofs.NodesThere.{net_is_there, transition_is_there}
use Rattle.rn_branch.proofs.made.nodes_of.Goals.{in-Entered+in_ok-node+in-Some+in_ok-push}
use Rattle.rn_branch.proofs.made.nodes_of.Goals.{in_default}
use Rattle.rn_branch.proofs.made.nodes_of.Goals as goal

pub node_of-requires-clause-net : goal.node_of-requires-clause-net
node_of-requires-clause-net c =
    net_is_there c.args.problem.now.system c.system.result.now c.in-Entered.head
    c.in-Entered.head c.args.problem.now.depth c.system.ensures.same refl
    (head_is_there c.args.growing.now c.decisions-decision-items.result.now c.decisions-decision-items.ensures
    c.loop-decision.decision-index c.decision-item.result c.loop-decision-test.true
    c.decision-item.is c.in-Entered.head _ c.in-Entered.is c.args.problem.now c.requires)

pub node_of-requires-clause-transition : goal.node_of-requires-clause-transition
node_of-requires-clause-transition c =
    transition_is_there c.args.problem.now.system c.system.result.now c.in-Entered.head
    c.in-Entered.head c.args.problem.now.depth c.system.ensures.same refl
    (head_is_there c.args.growing.now c.decisions-decision-items.result.now c.decisions-decision-items.ensures
    c.loop-decision.decision-index c.decision-item.result c.loop-decision-test.true
    c.decision-item.is c.in-Entered.head _ c.in-Entered.is c.args.problem.now c.requires)

pub node_of-requires-clause-same : goal.node_of-requires-clause-same
node_of-requires-clause-same c = c.requires.system ∙ sym c.system.ensures.same

pub returns-in_default-2 : goal.returns-in_default-2
returns-in_default-2 c =
    one_not_forced c.args.growing.now c.decisions-decision-items.result.now c.decisions-decision-items.ensures
    c.loop-decision.decision-index c.decision-item.result c.loop-decision-test.true
    c.decision-item.is c.in-Entered.head _ c.in-Entered.is
    (rw c.in_default-2.is at c.in_ok-node.ensures)

pub returns : goal.returns
returns c =
    subst (λ ds. AreMadeNodes c.args.growing.now ds c.loop-decision.nodes.items)
    (take_all c.loop-decision.decision-index c.decisions-decision-items.result.now (omega arith)
    ∙ c.decisions-decision-items.ensures) c.loop-decision.invariant

pub loop-decision-preserved : goal.loop-decision-preserved
loop-decision-preserved c = elim c.match-decision.branch [
  | in-Entered+in_ok-node+in-Some+in_ok-push w ↦
      one_more_node c.args.growing.now c.decisions-decision-items.result.now
      c.decisions-decision-items.ensures c.loop-decision.decision-index c.decision-item.result
      c.loop-decision-test.true c.decision-item.is w.in-Entered.head _ w.in-Entered.is
      w.in-Some.node c.loop-decision.nodes.items c.match-decision.nodes.items
      (ap (λ v. v.items) w.nodes-is ∙ w.in_ok-push.ensures.items)
      (rw w.in-Some.is at w.in_ok-node.ensures) c.loop-decision.invariant
  | in_default w ↦
      subst (λ v. AreMadeNodes c.args.growing.now
      (take (c.loop-decision.decision-index + 1) c.decisions-decision-items.result.now) v.items)
      (sym w.nodes-is)
      (no_more_nodes c.args.growing.now c.decisions-decision-items.result.now
      c.decisions-decision-items.ensures c.loop-decision.decision-index c.decision-item.result
      c.loop-decision-test.true c.decision-item.is
      (enters_none c.decision-item.result w.in_default.not-Entered) c.loop-decision.nodes.items
      c.loop-decision.invariant)
]
