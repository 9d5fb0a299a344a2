use Rattle.std.proofs.Common.{◌≡◌, ◌≤◌, ◌-◌, ℕ, length}
use Rattle.rn_term.specs.link.Kept.{level_of}
use Rattle.rn_term.proofs.levels.note_levels.Given as goal

abbrev pub invariant-loop-levels : goal.invariant-loop-levels
invariant-loop-levels l = record {
  few : length l.levels.items ≤ l.size;
  same : (id : ℕ) → level_of l.levels.items id ≡ level_of l.initial.levels.items id;
}

abbrev pub decreases-loop-levels : goal.decreases-loop-levels
decreases-loop-levels l = l.size - length l.levels.items
