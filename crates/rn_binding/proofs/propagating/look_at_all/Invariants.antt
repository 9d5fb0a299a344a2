-- The binding so far.
use Rattle.rn_binding.specs.link.Passing.{IsLater}
use Rattle.rn_binding.proofs.propagating.look_at_all.Given as goal

abbrev pub invariant-loop-k : goal.invariant-loop-k
invariant-loop-k l = IsLater l.graph.subject.system.now l.graph.subject.binding.now l.initial.growing l.growing
