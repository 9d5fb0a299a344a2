-- The bindings that are enabled at the start, and their text.
use Rattle.std.specs.Prelude.{ℕ, suc, ◌≡◌, ◌↔◌, List, [], ◌∷◌, ◌++◌, Contains, codes, length}
use Rattle.std.specs.List.{AllAdjacentBelow}
use Rattle.std.specs.declared.cmp.Ordering.TheVariants.{Less}
use Rattle.rn_value.specs.Text.{numeral}
use Rattle.rn_model.specs.declared.system.System.{System}
use Rattle.rn_model.specs.declared.binding.Binding.{Binding}
use Rattle.rn_model.specs.Order.{binding_cmp}
use Rattle.rn_model.specs.Enabling.{Enabled}
use Rattle.rn_model.specs.Markings.{initial_marking}
use Rattle.rn_record.specs.RecordText.{binding_text, first_names}

-- a binding comes before another
abbrev pub IsBelow : Binding → Binding → Type 0
IsBelow a b = binding_cmp a b ≡ Less

-- Just the bindings that are enabled at the initial marking within the depth, each once, in order.
pub record AreEnabledFirst (system : System) (depth : ℕ) (found : List Binding) : Type 0 where
  pub just : (b : Binding) → Contains found b ↔ Enabled system (initial_marking system) b depth
  pub ascending : AllAdjacentBelow IsBelow found (length found)

-- the number of a binding, before each of its lines
abbrev pub numbered_lead : ℕ → List ℕ
numbered_lead n = numeral n ++ codes " "

-- The lines of bindings, numbered from k. What a firing of one would make has the numbers from 2.
abbrev pub bindings_text : System → ℕ → List Binding → List ℕ
bindings_text system k [] = []
bindings_text system k (b ∷ bs) =
    binding_text system first_names (numbered_lead k) b ++ bindings_text system (suc k) bs
