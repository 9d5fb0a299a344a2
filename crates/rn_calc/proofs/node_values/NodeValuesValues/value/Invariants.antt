use Rattle.std.proofs.Common.{◌≡◌, drop}
use Rattle.rn_calc.proofs.NodeLookups.{beside}
use Rattle.rn_calc.proofs.node_values.NodeValuesValues.value.Given as goal

abbrev pub invariant-loop-i : goal.invariant-loop-i
invariant-loop-i l =
    beside (drop l.i l.self.vars.now) (drop l.i l.self.node.now.values) l.x
    ≡ beside l.self.vars.now l.self.node.now.values l.x
