use Rattle.std.proofs.Common.{◌≡◌}
use Rattle.rn_incr.specs.Lists.{AreListsOf}
use Rattle.rn_incr_tests.proofs.touched.are_touched.Given as goal

abbrev pub invariant-loop-change : goal.invariant-loop-change
invariant-loop-change l =
    (l.lists.marking ≡ l.state.table.marking) × AreListsOf l.state.setup.system l.lists
