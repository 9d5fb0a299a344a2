-- What the firing of a binding comes to, before it is done. This only connects the code to the
-- definitions.
use Rattle.std.specs.Prelude.{ℕ, ◌≡◌, ◌+◌, ◌≤◌, false, List, length, Some, Err}
use Rattle.rn_value.specs.declared.value.Value.{Value}
use Rattle.rn_model.specs.declared.system.System.{System}
use Rattle.rn_model.specs.declared.binding.Binding.{Binding}
use Rattle.rn_model.specs.Limits.{greatest_instance}
use Rattle.rn_model.specs.Markings.{Marking}
use Rattle.rn_model.specs.Firing.{Effects, effects, fire, creations_of, marking_after, named, too_many}
use Rattle.rn_table.specs.Changes.{changed}
use Rattle.rn_table.specs.Laws.{LeavesNew}
use Rattle.rn_table.specs.declared.change.Change.{Change}
use Rattle.rn_acts.specs.Laws.{IsOfFiring}
use Rattle.rn_fire.specs.declared.outcome.Outcome.{Outcome}
use Rattle.rn_fire.specs.declared.outcome.Outcome.TheVariants.{Undefined, Defined}

-- The firing of a binding is defined where the next number is this one, prints these values, and
-- makes this change.
pub record FiresBy (system : System) (b : Binding) (next step : ℕ) (outs : List Value)
    (change : Change) : Type 0 where
  pub acts : Effects
  pub are : effects system b next step ≡ Some acts
  pub printed : outs ≡ acts.outs
  pub few : too_many next (length (creations_of system b)) ≡ false
  pub low : next + length (creations_of system b) ≤ greatest_instance + 1
  pub of : IsOfFiring system b next change
  pub after : (m : Marking) → LeavesNew change m.next →
      changed system change m
      ≡ marking_after system m (creations_of system b) (named system b next) acts

-- the firing is undefined by this cause, or defined
abbrev pub IsOutcome : System → Binding → ℕ → ℕ → Outcome → Type 0
IsOutcome system b next step (Undefined cause) =
    (m : Marking) → m.next ≡ next → fire system m b step ≡ Err cause
IsOutcome system b next step (Defined outs change) = FiresBy system b next step outs change
