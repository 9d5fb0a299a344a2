use Rattle.std.proofs.Common.{◌∙◌, sym}
use Rattle.rn_calc.proofs.NodeLookups.{found_at, later_at}
use Rattle.rn_calc.proofs.node_values.NodeValuesValues.value.Goals as goal

pub returns-then-var-x : goal.returns-then-var-x
returns-then-var-x c =
    c.get.ensures.value
    ∙ sym (found_at c.loop-i.i c.args.x c.args.self.now.vars.now c.args.self.now.node.now.values
    c.loop-i-test.true c.if-var-x.true)
    ∙ c.loop-i.invariant

pub loop-i-preserved : goal.loop-i-preserved
loop-i-preserved c =
    sym (later_at c.loop-i.i c.args.x c.args.self.now.vars.now c.args.self.now.node.now.values
    c.loop-i-test.true c.if-var-x.false)
    ∙ c.loop-i.invariant
