-- The binding so far.
use Rattle.rn_binding.specs.link.Passing.{IsLater}
use Rattle.rn_binding.proofs.propagating.follow_all.Given as goal

abbrev pub invariant-loop-event : goal.invariant-loop-event
invariant-loop-event l = IsLater l.graph.subject.system.now l.graph.subject.binding.now l.initial.growing l.growing
