-- None of the values that were looked at has the part.
use Rattle.std.proofs.Common.{◌≡◌, ◌<◌, ℕ}
use Rattle.std.specs.Prelude.{Some, slice_get}
use Rattle.rn_value.specs.declared.value.Value.{Value}
use Rattle.rn_branch.specs.Parts.{LacksPart}
use Rattle.rn_branch.proofs.part.count_lacking.Given as goal

abbrev pub invariant-loop-k : goal.invariant-loop-k
invariant-loop-k l = (j : ℕ) (v : Value) → j < l.k → slice_get l.values j ≡ Some v →
    LacksPart l.i l.part v
