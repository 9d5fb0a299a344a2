-- A search for the bindings that are less than one.
use Rattle.std.specs.Prelude.{ℕ, ◌≡◌, ◌⊎◌, List, [], ◌∷◌, ◌≢◌}
use Rattle.std.specs.declared.cmp.Ordering.TheVariants.{Less, Equal, Greater}
use Rattle.rn_value.specs.Order.{value_cmp}
use Rattle.rn_value.specs.declared.value.Value.{Value}
use Rattle.rn_model.specs.declared.binding.Binding.{Binding}
use Rattle.rn_model.specs.declared.binding.Node.{Node}
use Rattle.rn_model.specs.Order.{binding_cmp}
use Rattle.rn_growing.specs.declared.decision.Decision.{Decision}
use Rattle.rn_growing.specs.Decisions.{transition_in}
use Rattle.rn_growing.specs.Grown.{Grown}
use Rattle.rn_search.specs.Sought.{Sought, Leads}
use Rattle.rn_looking.specs.Branches.{IsBranchOf}
use Rattle.rn_looking.specs.Forced.{IsVarForcedTo}

-- decisions lead to a binding that is less than another
abbrev pub LeadsBelow : Sought → Binding → List Decision → Binding → Type 0
LeadsBelow sought than ds b = Leads sought ds b × (binding_cmp b than ≡ Less)

-- a branch of a search, one of whose bindings is known
abbrev pub IsLesserBranch : Sought → Binding → Grown → Type 0
IsLesserBranch sought than g = IsBranchOf sought g × Leads sought [] than

-- The first of some variables of the start are forced to values, of which the first that isn't
-- equal to the one beside it is greater.
abbrev pub IsPast : Grown → List ℕ → List Value → Type 0
IsPast g [] ws = ⊥
IsPast g (x ∷ xs) [] = ⊥
IsPast g (x ∷ xs) (w ∷ ws) =
    (v : Value) × IsVarForcedTo g [] x v
    × ((value_cmp v w ≡ Greater) ⊎ ((value_cmp v w ≡ Equal) × IsPast g xs ws))

-- and those are the variables of its transition, and the values of the first node of a binding
abbrev pub IsPastFirst : Sought → Binding → Grown → Type 0
IsPastFirst sought than g = (node : Node) × ((rest : List Node) × (than.nodes ≡ node ∷ rest))
    × IsPast g (transition_in sought.system sought.start).vars node.values

-- a binding to which a search leads, and that isn't greater than any other
abbrev pub IsFirstLed : Sought → Binding → Type 0
IsFirstLed sought b =
    Leads sought [] b × ((c : Binding) → Leads sought [] c → binding_cmp b c ≢ Greater)
