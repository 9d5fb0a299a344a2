-- Node by node.
use Rattle.std.proofs.Common.{◌∙◌, sym, subst}
use Rattle.rn_binding.specs.link.Passing.{AreVarsForced}
use Rattle.rn_binding.proofs.ForcedVariables.{of_node, each_more}
use Rattle.rn_binding.proofs.forcing.are_all_forced.Goals as goal

pub returns-then-not-branch : goal.returns-then-not-branch
returns-then-not-branch c = (
  λ no. absurd (let no : ⊥ = cc in no),
  λ all. sym c.if-not-branch.true ∙ c.in_ok-are_vars_forced.ensures.1
      ((of_node c.args.system.now c.args.growing.now c.node-item.result c.transition_of.result.now
      c.as_slice.result.now c.as_slice-vars.result.now c.as_slice.ensures c.as_slice-vars.ensures
      c.transition_of.ensures).1
      (subst (AreVarsForced c.args.system.now c.args.growing.now) (sym c.node-item.is)
      (all c.loop-node.node-index c.node-item.result c.loop-node-test.true))),
)

pub loop-node-preserved : goal.loop-node-preserved
loop-node-preserved c =
    each_more (AreVarsForced c.args.system.now c.args.growing.now) c.args.nodes.now
    c.loop-node.node-index c.node-item.result c.loop-node-test.true
    c.node-item.is c.loop-node.invariant
    ((of_node c.args.system.now c.args.growing.now c.node-item.result c.transition_of.result.now
    c.as_slice.result.now c.as_slice-vars.result.now c.as_slice.ensures c.as_slice-vars.ensures
    c.transition_of.ensures).0 (c.in_ok-are_vars_forced.ensures.0 c.if-not-branch.false))
