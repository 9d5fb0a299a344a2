-- None of the tokens that were looked at has the part.
use Rattle.std.proofs.Common.{◌≡◌, ◌<◌, ◌≤◌, ◌-◌, ℕ}
use Rattle.std.specs.Prelude.{Some, slice_get}
use Rattle.rn_value.specs.declared.value.Value.{Value}
use Rattle.rn_branch.specs.Parts.{LacksPart}
use Rattle.rn_branch.proofs.part.next_with_part.Given as goal

abbrev pub invariant-loop-index : goal.invariant-loop-index
invariant-loop-index l = (j : ℕ) (v : Value) → l.from ≤ j → j < l.index → slice_get l.held j ≡ Some v →
    LacksPart l.i l.part v

abbrev pub decreases-loop-index : goal.decreases-loop-index
decreases-loop-index l = l.count - l.index
