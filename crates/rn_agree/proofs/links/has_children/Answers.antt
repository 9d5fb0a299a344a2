-- Downlink by downlink.
use Rattle.std.proofs.Common.{◌≡◌, ◌∙◌, ◌∷◌, ◌++◌, [], length, ap, sym, arith}
use Rattle.std.specs.Prelude.{Some}
use Rattle.rn_model.specs.declared.binding.Node.{Node}
use Rattle.rn_model.specs.declared.system.Downlink.{Downlink}
use Rattle.rn_model.specs.Systems.{transition_of}
use Rattle.rn_model.specs.Bindings.{HasUplinkOf, node_at}
use Rattle.rn_agree.proofs.EachLemmas.{indexed_more, indexed_at, indexed_all}
use Rattle.rn_agree.proofs.LinkLemmas.{no_more_downlinks}
use Rattle.rn_agree.proofs.links.has_children.Goals as goal

pub returns-then-downlinks-len : goal.returns-then-downlinks-len
returns-then-downlinks-len c = (
  λ no. absurd (let no : ⊥ = cc in no),
  λ has.
      let few = no_more_downlinks c.args.system.now c.args.binding.now c.args.node.now
      c.requires.ascending has in
      let all : length c.as_slice-downlinks.result.now
      ≡ length (transition_of c.args.system.now c.args.node.now).downlinks
      = ap (λ l. length l) (c.as_slice-downlinks.ensures ∙ ap
      (λ t. t.downlinks) c.transition_of.ensures) in
      let no : ⊥ = omega (arith, few, all) in absurd no,
)

pub returns-then-not-has_child : goal.returns-then-not-has_child
returns-then-not-has_child c = (
  λ no. absurd (let no : ⊥ = cc in no),
  λ has.
      let child = indexed_at
      (λ j (d : Downlink). (n : Node) ×
      (node_at c.args.binding.now (c.args.node.now.path ++ j ∷ []) ≡ Some n)
      × HasUplinkOf c.args.system.now n d.channel)
      c.as_slice-downlinks.result.now (transition_of c.args.system.now c.args.node.now).downlinks
      (c.as_slice-downlinks.ensures ∙ ap (λ t. t.downlinks) c.transition_of.ensures)
      c.loop-i.i c.index-downlinks-i.result c.loop-i-test.true has in
      sym c.if-not-has_child.true ∙ c.has_child.ensures.1 (rw c.as_slice.ensures child),
)

pub loop-i-preserved : goal.loop-i-preserved
loop-i-preserved c =
    indexed_more
    (λ j (d : Downlink). (n : Node) ×
    (node_at c.args.binding.now (c.args.node.now.path ++ j ∷ []) ≡ Some n)
    × HasUplinkOf c.args.system.now n d.channel)
    c.as_slice-downlinks.result.now (transition_of c.args.system.now c.args.node.now).downlinks
    (c.as_slice-downlinks.ensures ∙ ap (λ t. t.downlinks) c.transition_of.ensures)
    c.loop-i.i c.index-downlinks-i.result c.loop-i-test.true c.loop-i.invariant
    (rw (← c.as_slice.ensures) (c.has_child.ensures.0 c.if-not-has_child.false))

pub returns : goal.returns
returns c = (
  λ yes. indexed_all
      (λ j (d : Downlink). (n : Node) ×
      (node_at c.args.binding.now (c.args.node.now.path ++ j ∷ []) ≡ Some n)
      × HasUplinkOf c.args.system.now n d.channel)
      c.as_slice-downlinks.result.now (transition_of c.args.system.now c.args.node.now).downlinks
      (c.as_slice-downlinks.ensures ∙ ap (λ t. t.downlinks) c.transition_of.ensures)
      c.loop-i.i c.loop-i-test.false c.loop-i.invariant,
  λ has. cc,
)
