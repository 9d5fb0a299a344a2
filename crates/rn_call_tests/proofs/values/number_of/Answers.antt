-- A variable has no operands.
use Rattle.rn_model.specs.declared.expr.Expr.TheVariants as E
use Rattle.rn_call_tests.proofs.PlainInscriptions.{none_fit, none_in_var}
use Rattle.rn_call_tests.proofs.values.number_of.Goals as goal

pub calc-requires-clause-fit : goal.calc-requires-clause-fit
calc-requires-clause-fit c = none_fit _ (E.Var c.args.x) (none_in_var c.args.x)
