-- The tests so far.
use Rattle.std.specs.Prelude.{All}
use Rattle.rn_branch.specs.Testing.{IsTest}
use Rattle.rn_branch.proofs.testing.tests_of.Given as goal

abbrev pub invariant-loop-k : goal.invariant-loop-k
invariant-loop-k l = All (IsTest l.growing l.head l.var) l.tests.items
