-- The patterns are those of the kinds so far.
use Rattle.std.proofs.Common.{◌≡◌, map, take}
use Rattle.rn_declared.specs.Patterns.{pattern_of}
use Rattle.rn_declared.proofs.pattern.+of.Given as goal

abbrev pub invariant-patterns_of-loop-kind : goal.invariant-patterns_of-loop-kind
invariant-patterns_of-loop-kind l = l.patterns.items ≡ map pattern_of (take l.kind-index l.kinds)
