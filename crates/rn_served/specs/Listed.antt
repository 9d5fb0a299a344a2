-- The bindings that are enabled, in order.
use Rattle.std.specs.Prelude.{ℕ, suc, ◌≡◌, ◌<◌, ◌↔◌, ◌⊎◌, List, [], ◌∷◌, ◌++◌, Contains, Some, codes, length, slice_get}
use Rattle.std.specs.List.{AllAdjacentBelow}
use Rattle.std.specs.declared.cmp.Ordering.TheVariants.{Less}
use Rattle.rn_value.specs.Text.{numeral}
use Rattle.rn_model.specs.declared.system.System.{System}
use Rattle.rn_model.specs.declared.binding.Binding.{Binding}
use Rattle.rn_model.specs.Enabling.{Enabled}
use Rattle.rn_model.specs.Markings.{Marking}
use Rattle.rn_model.specs.Order.{binding_cmp}
use Rattle.rn_record.specs.RecordText.{binding_text}

-- a binding comes before another
abbrev pub IsBelow : Binding → Binding → Type 0
IsBelow a b = binding_cmp a b ≡ Less

-- Just the bindings that are enabled at a marking within the depth, each once, in order.
pub record AreEnabled (system : System) (m : Marking) (depth : ℕ) (found : List Binding) : Type 0 where
  pub just : (b : Binding) → Contains found b ↔ Enabled system m b depth
  pub ascending : AllAdjacentBelow IsBelow found (length found)

-- A binding is the one with this number among the enabled ones, counted from 1: it is enabled, and
-- of the enabled ones just those in a list that is one shorter come before it.
pub record IsNumbered (system : System) (m : Marking) (depth k : ℕ) (b : Binding) : Type 0 where
  pub enabled : Enabled system m b depth
  pub before : List Binding
  pub just : (c : Binding) → Contains before c ↔ (Enabled system m c depth × IsBelow c b)
  pub ascending : AllAdjacentBelow IsBelow before (length before)
  pub count : suc (length before) ≡ k

-- no enabled binding has this number: it is 0, or there are fewer
abbrev pub NoneIsNumbered : System → Marking → ℕ → ℕ → Type 0
NoneIsNumbered system m depth k = (k ≡ 0)
    ⊎ ((found : List Binding) × AreEnabled system m depth found × (length found < k))

-- the number of a binding, before each of its lines
abbrev pub numbered : ℕ → List ℕ
numbered n = numeral n ++ codes " "

-- The binding at an index of the list has the number after it. So these are the numbers of the list,
-- from 1.
abbrev pub NumbersAreOfList : Type 0
NumbersAreOfList = (system : System) (m : Marking) (depth k : ℕ) (found : List Binding) (b : Binding) →
    AreEnabled system m depth found → k < length found → slice_get found k ≡ Some b →
    IsNumbered system m depth (suc k) b

-- The lines of bindings, numbered from k, where the instances made so far have these names. What a
-- firing of one would make has the numbers after theirs.
abbrev pub numbered_text : System → List (List ℕ) → ℕ → List Binding → List ℕ
numbered_text system names k [] = []
numbered_text system names k (b ∷ bs) =
    binding_text system names (numbered k) b ++ numbered_text system names (suc k) bs
