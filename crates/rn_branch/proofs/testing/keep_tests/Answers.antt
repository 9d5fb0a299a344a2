-- By the tests of all guards.
use Rattle.rn_branch.proofs.KeptTests.{are_tests}
use Rattle.rn_branch.proofs.testing.keep_tests.Goals as goal

pub returns : goal.returns
returns c =
    are_tests c.args.growing.now (record {
      count = c.mark-count.result;
      node = c.args.node;
      var = c.args.var;
      tests = c.in_ok-tests.tests;
    }) c.mark-count.ensures c.args.offer.now.head.now c.requires.entered.0 c.requires.entered.1
    c.in_ok-tests.ensures
