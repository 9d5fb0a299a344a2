use Rattle.std.proofs.Common.{ℕ, take}
use Rattle.std.specs.Prelude.{Contains}
use Rattle.rn_finder.specs.Idle.{IsIn}
use Rattle.rn_firsts.proofs.known_idle.remove_all.Given as goal

abbrev pub invariant-loop-number : goal.invariant-loop-number
invariant-loop-number l = (n : ℕ) → IsIn l.idle n →
    IsIn l.initial.idle n × ¬ Contains (take l.number-index l.numbers) n
