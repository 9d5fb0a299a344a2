use Rattle.std.proofs.Common.{ℕ, ◌-◌}
use Rattle.rn_finder.specs.Idle.{IsIn}
use Rattle.rn_finder.proofs.idle.Idle.lengthen.Given as goal

abbrev pub invariant-loop-self : goal.invariant-loop-self
invariant-loop-self l = (n : ℕ) → IsIn l.self-inside.words.items n →
    IsIn l.initial.self-inside.words.items n

abbrev pub decreases-loop-self : goal.decreases-loop-self
decreases-loop-self l = l.count - l.self-inside.words.len
