-- By the kinds of the node.
use Rattle.std.proofs.Common.{◌≡◌, ◌∙◌, ◌∷◌, sym, subst}
use Rattle.std.specs.Prelude.{Contains}
use Rattle.rn_looking.specs.NodeKinds.{kinds_at}
use Rattle.rn_looking.proofs.KindedNodes.{kinded_node}
use Rattle.rn_looking.proofs.KindedValues.{forced_kinds, one_before}
use Rattle.rn_looking.proofs.narrowed.fewest_passing.Goals as goal

pub count_passing-requires : goal.count_passing-requires
count_passing-requires c v held =
    let g = c.args.at.growing.now in
    let head = c.args.at.head.now in
    let nodes = kinded_node c.args.at.problem.now g c.args.at.node head c.args.at.transition.now
    c.requires.at in
    let there = subst (λ gs. Contains gs c.guard-item.result) c.as_slice-guard-items.ensures
    (c.loop-guard.guard-index, c.loop-guard-test.true, sym c.guard-item.is) in
    let forced = rw c.in-Some.is at c.in_ok-others.ensures in (
      kinds_at g head,
      nodes.guards c.guard-item.result there,
      one_before (kinds_at g head) c.args.var v c.in-Some.others.items (c.requires.tokens v held)
          (forced_kinds g head c.in-Some.others.items nodes.forces forced.forced),
    )
