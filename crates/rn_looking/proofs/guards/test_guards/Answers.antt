-- A guard that is known, or one of whose parts is, and isn't true.
use Rattle.std.proofs.Common.{sym, subst, inl, inr}
use Rattle.std.specs.Prelude.{Contains}
use Rattle.rn_looking.specs.link.Views.{IsNodeStuck}
use Rattle.rn_looking.proofs.GuardLooks.{partly_untrue_is_stuck, untrue_is_stuck}
use Rattle.rn_looking.proofs.KindedNodes.{kinded_node}
use Rattle.rn_looking.proofs.guards.test_guards.Goals as goal

pub test_guard-requires : goal.test_guard-requires
test_guard-requires c =
    let there = subst (λ gs. Contains gs c.guard-item.result) c.as_slice-guard-items.ensures
    (c.loop-guard.guard-index, c.loop-guard-test.true, sym c.guard-item.is) in
    let nodes = kinded_node c.args.at.problem.now c.args.at.growing.now c.args.at.node
    c.args.at.head.now c.args.at.transition.now c.requires in
    record { kinds = (nodes.forces, nodes.guards c.guard-item.result there) }

pub returns-in-Fails : goal.returns-in-Fails
returns-in-Fails c told =
    let there = subst (λ gs. Contains gs c.guard-item.result) c.as_slice-guard-items.ensures
    (c.loop-guard.guard-index, c.loop-guard-test.true, sym c.guard-item.is) in
    elim (c.in_ok-test_guard.ensures c.in-Fails.is) as
    (λ _. IsNodeStuck c.args.at) [
      | inl all ↦
          untrue_is_stuck c.args.at.problem.now c.args.at.growing.now c.args.at.node
          c.args.at.head.now c.args.at.transition.now c.requires c.guard-item.result there all
      | inr part ↦
          partly_untrue_is_stuck c.args.at.problem.now c.args.at.growing.now c.args.at.node
          c.args.at.head.now c.args.at.transition.now c.requires c.guard-item.result there part
    ]
