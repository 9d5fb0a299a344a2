-- Argument by argument.
use Rattle.std.proofs.Common.{refl, arith}
use Rattle.rn_model.specs.ExpressionLaws.{OperandsAreFit}
use Rattle.rn_calc.specs.link.NodeValues.{lent_env}
use Rattle.rn_agree.proofs.EachLemmas.{each_at}
use Rattle.rn_agree.proofs.calls.args_agree.Goals as goal

pub have_one_value-requires-clause-fit : goal.have_one_value-requires-clause-fit
have_one_value-requires-clause-fit c =
    each_at (OperandsAreFit (lent_env c.args.values.now)) c.args.args.now c.args.args.now
    c.loop-k.k c.index-args-k.result refl c.loop-k-test.true c.index-args-k.is c.requires.fit

pub have_one_value-requires-clause-other_fit : goal.have_one_value-requires-clause-other_fit
have_one_value-requires-clause-other_fit c =
    each_at (OperandsAreFit (lent_env c.args.other_values.now)) c.args.others.now
    c.args.others.now c.loop-k.k c.index-others-k.result refl
    (omega (arith, c.loop-k-test.true, c.if-args-others.false)) c.index-others-k.is
    c.requires.other_fit
