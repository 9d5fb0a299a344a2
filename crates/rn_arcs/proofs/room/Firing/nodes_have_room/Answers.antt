use Rattle.std.proofs.Common.{◌∙◌, sym, refl, arith}
use Rattle.std.proofs.lemmas.Bool.{false≢true}
use Rattle.rn_arcs.specs.link.Room.{NodeHasRoom}
use Rattle.rn_arcs.proofs.TokenLemmas.{holds_more, not_all}
use Rattle.rn_arcs.proofs.room.Firing.nodes_have_room.Goals as goal

pub returns-then-not-node_has_room : goal.returns-then-not-node_has_room
returns-then-not-node_has_room c =
    not_all (NodeHasRoom c.args.self.now) c.args.nodes.now c.loop-node.node-index
    c.node-item.result c.loop-node-test.true c.node-item.is
    (λ here. false≢true (sym c.if-not-node_has_room.true ∙ c.node_has_room.ensures.1 here))

pub loop-node-preserved : goal.loop-node-preserved
loop-node-preserved c =
    holds_more (NodeHasRoom c.args.self.now) c.args.nodes.now c.loop-node.node-index
    c.node-item.result c.loop-node-test.true c.node-item.is c.loop-node.invariant
    (c.node_has_room.ensures.0 c.if-not-node_has_room.false)

pub returns : goal.returns
returns c = (
  λ yes k d low.
      let all = c.loop-node-test.false in
      c.loop-node.invariant k d (omega (arith, low, all)),
  λ all. refl,
)
