use Rattle.std.specs.Prelude.{All}
use Rattle.rn_call_tests.proofs.PlainInscriptions.{IsPlain}
use Rattle.rn_call_tests.proofs.capacities.transition_with.Given as goal

abbrev pub invariant-loop-kind : goal.invariant-loop-kind
invariant-loop-kind l = All IsPlain l.made
