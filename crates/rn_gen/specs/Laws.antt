-- Laws of the workload text.
use Rattle.std.specs.Prelude.{◌≡◌, ℕ, ◌≤◌}
use Rattle.rn_notation.specs.declared.token.Spot.{Spot}
use Rattle.rn_model.specs.declared.system.System.{System}
use Rattle.rn_net.specs.declared.plain.Plain.{Plain}
use Rattle.rn_net.specs.declared.refusal.Refusal.{Refusal}
use Rattle.rn_net.specs.Texts.{Spells}
use Rattle.rn_net.specs.Refusals.{IsRefused}
use Rattle.rn_declared.specs.declared.fault.Rule.{Rule}
use Rattle.rn_check.specs.Checked.{Checked}
use Rattle.rn_rules.specs.Broken.{BreaksFirst}
use Rattle.rn_print.specs.Nets.{canonical_text}
use Rattle.rn_gen.specs.Workload.{workload, most_copies}

-- The workload text is accepted: it spells a plain form in which no rule is broken.
abbrev pub WorkloadIsAccepted : Type 0
WorkloadIsAccepted = (n : ℕ) → n ≤ most_copies →
    (plain : Plain) × (system : System) × Spells (workload n) plain × Checked plain system

-- it is the canonical text of what it spells
abbrev pub WorkloadIsCanonical : Type 0
WorkloadIsCanonical = (n : ℕ) (plain : Plain) → n ≤ most_copies → Spells (workload n) plain →
    canonical_text plain ≡ workload n

-- there is no reason to refuse it, and no rule is broken in what it spells
abbrev pub WorkloadIsNotRefused : Type 0
WorkloadIsNotRefused = (n : ℕ) → n ≤ most_copies →
    ((why : Refusal) → IsRefused (workload n) why → ⊥)
    × ((plain : Plain) (rule : Rule) (spot : Spot) → Spells (workload n) plain →
    BreaksFirst plain rule spot → ⊥)
