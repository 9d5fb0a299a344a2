-- What lent values of a node are read as.
use Rattle.std.specs.Prelude.{None, zip}
use Rattle.rn_model.specs.Evaluation.{Env}
use Rattle.rn_calc.specs.declared.node_values.NodeValues.{NodeValues}

-- the instance, no step, and each variable beside its value
abbrev pub lent_env : NodeValues → Env
lent_env lent = record {
  this = lent.node.now.inst;
  step = None;
  pairs = zip lent.vars.now lent.node.now.values;
}
