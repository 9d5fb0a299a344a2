-- Guard by guard.
use Rattle.std.proofs.Common.{refl}
use Rattle.rn_calc.specs.FitComparisons.{ComparisonsAreFit}
use Rattle.rn_calc.specs.link.NodeValues.{lent_env}
use Rattle.rn_agree.proofs.EachLemmas.{each_at}
use Rattle.rn_agree.proofs.inscriptions.guards_hold.Goals as goal

pub is_true-requires-clause-fit : goal.is_true-requires-clause-fit
is_true-requires-clause-fit c =
    each_at (ComparisonsAreFit (lent_env c.args.values.now)) c.args.guards.now
    c.args.guards.now c.loop-guard.guard-index c.guard-item.result refl
    c.loop-guard-test.true c.guard-item.is c.requires.fit
