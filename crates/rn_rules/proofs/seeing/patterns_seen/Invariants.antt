-- The patterns so far, and those of what is left, are all.
use Rattle.std.proofs.Common.{◌≡◌, ◌++◌, map}
use Rattle.rn_rules.proofs.seeing.patterns_seen.Given as goal

abbrev pub invariant-loop-sight : goal.invariant-loop-sight
invariant-loop-sight g l =
    l.patterns.items ++ map (λ s. s.pattern) l.sight-iterator.rest.items
    ≡ map (λ s. s.pattern) l.fn.sights.items
