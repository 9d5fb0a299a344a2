-- What the steps of the code say of a growing binding. It only connects the code to the
-- definitions.
use Rattle.std.specs.Prelude.{ℕ, ◌≡◌, ◌<◌, ◌≤◌, ◌⊎◌, ◌↔◌, Bool, true, false, List, [], Some}
use Rattle.std.specs.Prelude.{IsTrue, All, Contains, length}
use Rattle.rn_model.specs.declared.system.System.{System}
use Rattle.rn_model.specs.declared.binding.Node.{Node}
use Rattle.rn_model.specs.declared.binding.Binding.{Binding}
use Rattle.rn_model.specs.Systems.{transition_of}
use Rattle.rn_model.specs.Bindings.{Shape}
use Rattle.rn_model.specs.Agreement.{Agrees}
use Rattle.rn_model.specs.Good.{Good}
use Rattle.rn_model.specs.Derivation.{Item, MayEnter, items_of}
use Rattle.rn_growing.specs.declared.decision.Decision.{Decision}
use Rattle.rn_growing.specs.Decisions.{IsOn, AreOn, Follows}
use Rattle.rn_growing.specs.Equations.{IsForced}
use Rattle.rn_growing.specs.Grown.{Grown}
use Rattle.rn_growing.specs.Turns.{AreInTurn}

-- a variable of the node on a path is forced
abbrev pub IsVarForcedOn : Grown → List ℕ → ℕ → Type 0
IsVarForcedOn g path x = IsForced g.system g.decisions (λ a. Some (a.var path x))

-- all variables of a node are
abbrev pub AreVarsForced : System → Grown → Node → Type 0
AreVarsForced system g node = All (IsVarForcedOn g node.path) (transition_of system node).vars

-- what is known of the binding that is given
pub record IsGiven (system : System) (b : Binding) : Type 0 where
  pub good : Good system
  pub depth : ℕ
  pub shape : Shape system b depth
  pub agrees : Agrees system b

-- The binding follows what was decided, in turn, and something was.
pub record IsFollowed (system : System) (b : Binding) (g : Grown) : Type 0 where
  pub same : g.system ≡ system
  pub follows : Follows system b g.decisions
  pub turns : AreInTurn system g.decisions
  pub some : 0 < length g.decisions

-- an item was decided
abbrev pub IsDecided : System → List Decision → Item → Type 0
IsDecided system decisions item = (d : Decision) × Contains decisions d × IsOn system d item

-- what was decided is still
abbrev pub Stay : List Decision → List Decision → Type 0
Stay decisions more = (d : Decision) → Contains decisions d → Contains more d

-- an item isn't in, and may not come in now
abbrev pub IsOut : System → Binding → List Decision → Item → Type 0
IsOut system b decisions item = (items : List Item) → AreOn system b decisions items →
    (MayEnter system b (Contains items) item → ⊥) × (Contains items item → ⊥)

-- The answer to an item that is tried: it is in now, or may not come in now.
abbrev pub BringsItem : System → Binding → Grown → Item → Grown → Bool → Type 0
BringsItem system b old item new true =
    Stay old.decisions new.decisions × IsDecided system new.decisions item
BringsItem system b old item new false = (new ≡ old) × IsOut system b old.decisions item

-- what was decided is still, and the binding follows what is decided now
pub record IsLater (system : System) (b : Binding) (old new : Grown) : Type 0 where
  pub followed : IsFollowed system b new
  pub stay : Stay old.decisions new.decisions

-- After items were tried, one after another: which of them are left.
pub record IsPassed (system : System) (b : Binding) (old : Grown) (tried : List Item)
    (new : Grown) (left : List Item) : Type 0 where
  pub followed : IsFollowed system b new
  pub stay : Stay old.decisions new.decisions
  pub items : (item : Item) → Contains left item → Contains tried item
  pub covered : (item : Item) → Contains tried item →
      IsDecided system new.decisions item ⊎ Contains left item
  pub few : length left ≤ length tried
  pub stuck : length left ≡ length tried → (new ≡ old)
      × ((item : Item) → Contains tried item → IsOut system b old.decisions item)

-- Which items are left: all others were decided.
pub record AreLeft (system : System) (b : Binding) (g : Grown) (left : List Item) : Type 0 where
  pub followed : IsFollowed system b g
  pub items : (item : Item) → Contains left item → Contains (items_of system b) item
  pub covered : (item : Item) → Contains (items_of system b) item →
      IsDecided system g.decisions item ⊎ Contains left item

-- and none of them may come in now
pub record AreStuck (system : System) (b : Binding) (g : Grown) (left : List Item)
    : Type 0 where
  pub known : AreLeft system b g left
  pub out : (item : Item) → Contains left item → IsOut system b g.decisions item

-- whether none are left
abbrev pub Ends : System → Binding → Grown → Bool → Type 0
Ends system b g all =
    (left : List Item) × AreStuck system b g left × (IsTrue all ↔ (left ≡ []))
