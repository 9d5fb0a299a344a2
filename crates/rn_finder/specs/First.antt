-- The first of the enabled bindings of which something holds.
use Rattle.std.specs.Prelude.{ℕ, ◌≡◌, ◌≢◌, List, [], Contains, Option, Some, None}
use Rattle.std.specs.declared.cmp.Ordering.TheVariants.{Greater}
use Rattle.rn_model.specs.declared.system.System.{System}
use Rattle.rn_model.specs.declared.binding.Binding.{Binding}
use Rattle.rn_model.specs.Enabling.{Enabled}
use Rattle.rn_model.specs.Markings.{Marking}
use Rattle.rn_model.specs.Order.{binding_cmp}

-- one of some bindings that isn't greater than any of them, or none where there are none
abbrev pub IsFirstAmong : List Binding → Option Binding → Type 0
IsFirstAmong found None = found ≡ []
IsFirstAmong found (Some b) =
    Contains found b × ((c : Binding) → Contains found c → binding_cmp b c ≢ Greater)

-- an enabled binding of which this holds, and that isn't greater than any other; or none where none
-- is enabled of which it holds
abbrev pub IsFirstOf : System → Marking → ℕ → (Binding → Type 0) → Option Binding → Type 0
IsFirstOf system m depth Of None = (b : Binding) → Enabled system m b depth → ¬ Of b
IsFirstOf system m depth Of (Some b) =
    Enabled system m b depth × Of b
    × ((c : Binding) → Enabled system m c depth → Of c → binding_cmp b c ≢ Greater)
