-- What is written of a line.
use Rattle.std.specs.Prelude.{ℕ, ◌≡◌, ◌⊎◌, List, Option}
use Rattle.rn_outside.specs.Bytes.{Appends, AppendsPrefix}
use Rattle.rn_outside.specs.Faults.{risen}

-- A sink took a line without a fault, or failed once, before its end.
abbrev pub TakesLine : Option (List ℕ) → Option (List ℕ) → ℕ → ℕ → List ℕ → Type 0
TakesLine held held_after faults faults_after line =
    (Appends held line held_after × (faults_after ≡ faults))
    ⊎ (AppendsPrefix held line held_after × (faults_after ≡ risen faults))
