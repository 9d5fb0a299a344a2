-- Test by test.
use Rattle.std.proofs.Common.{sym, subst}
use Rattle.rn_branch.specs.Testing.{IsTest}
use Rattle.rn_branch.proofs.testing.fails_one.Goals as goal

pub fails-requires-clause-test : goal.fails-requires-clause-test
fails-requires-clause-test c =
    subst (IsTest c.args.growing.now c.args.offer.now.head.now c.args.var) (sym c.test-item.is)
    (c.requires.tests c.loop-test.test-index c.test-item.result c.loop-test-test.true)
