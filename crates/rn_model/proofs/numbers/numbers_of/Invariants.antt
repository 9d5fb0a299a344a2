use Rattle.std.proofs.Common.{◌≡◌, ◌+◌, ◌++◌, List, length}
use Rattle.rn_model.specs.declared.numbers.MadeBy.{MadeBy}
use Rattle.rn_model.specs.Numbers.{AreNumbersOf}
use Rattle.rn_model.proofs.numbers.numbers_of.Given as goal

-- the creations behind those that are left have their numbers
abbrev pub invariant-loop-creation : goal.invariant-loop-creation
invariant-loop-creation l = (rest : List MadeBy) × (l.made.items ++ rest ≡ l.initial.made.items)
    × AreNumbersOf rest (l.next + length l.made.items) l.numbers

abbrev pub decreases-loop-creation : goal.decreases-loop-creation
decreases-loop-creation l = length l.made.items
