-- Node by node.
use Rattle.std.proofs.Common.{◌∙◌, sym}
use Rattle.rn_agree.specs.link.Agreeing.{CallsAgree}
use Rattle.rn_agree.proofs.EachLemmas.{each_more, each_at, each_all}
use Rattle.rn_agree.specs.link.Agreeing.{IsFitNode}
use Rattle.rn_agree.proofs.agreement.all_calls_agree.Goals as goal

pub calls_agree-requires-clause-own_fit : goal.calls_agree-requires-clause-own_fit
calls_agree-requires-clause-own_fit c =
    each_at (IsFitNode c.args.system.now) c.as_slice-nodes.result.now c.args.binding.now.nodes
    c.loop-node.node-index c.node-item.result c.as_slice-nodes.ensures c.loop-node-test.true
    c.node-item.is c.requires.fit

pub returns-then-not-branch : goal.returns-then-not-branch
returns-then-not-branch c = (
  λ no. absurd (let no : ⊥ = cc in no),
  λ all. sym c.if-not-branch.true ∙ c.in_ok-calls_agree.ensures.1
      (each_at (CallsAgree c.args.system.now c.args.binding.now) c.as_slice-nodes.result.now
      c.args.binding.now.nodes c.loop-node.node-index c.node-item.result c.as_slice-nodes.ensures
      c.loop-node-test.true c.node-item.is all),
)

pub loop-node-preserved : goal.loop-node-preserved
loop-node-preserved c =
    each_more (CallsAgree c.args.system.now c.args.binding.now) c.as_slice-nodes.result.now
    c.args.binding.now.nodes c.loop-node.node-index c.node-item.result c.as_slice-nodes.ensures
    c.loop-node-test.true c.node-item.is c.loop-node.invariant
    (c.in_ok-calls_agree.ensures.0 c.if-not-branch.false)

pub returns : goal.returns
returns c = (
  λ yes. each_all (CallsAgree c.args.system.now c.args.binding.now) c.as_slice-nodes.result.now
      c.args.binding.now.nodes c.loop-node.node-index c.as_slice-nodes.ensures
      c.loop-node-test.false c.loop-node.invariant,
  λ all. cc,
)
