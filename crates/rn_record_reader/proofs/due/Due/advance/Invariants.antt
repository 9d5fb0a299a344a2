use Rattle.std.proofs.Common.{◌≡◌, [], length, false}
use Rattle.rn_record_reader.specs.link.DueAhead.{later}
use Rattle.rn_record_reader.proofs.due.Due.advance.Given as goal

-- what is due later stays
abbrev pub invariant-loop-level : goal.invariant-loop-level
invariant-loop-level l =
    (later [] l.self.levels.items ≡ later [] l.initial.self.levels.items) × (l.self.done ≡ false)

abbrev pub decreases-loop-level : goal.decreases-loop-level
decreases-loop-level l = length l.self.levels.items
