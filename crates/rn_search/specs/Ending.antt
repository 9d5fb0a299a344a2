-- Laws on the end of a branch of a search: where it is stuck it leads to nothing, and what stands
-- at its end is so. Each is the contract of a function that does nothing.
use Rattle.std.specs.Prelude.{ℕ, ◌≡◌, ◌<◌, ⊤, true, List, [], ◌∷◌, ◌++◌, Some, None}
use Rattle.std.specs.Prelude.{slice_get, length, Contains, All}
use Rattle.std.specs.List.{AllAdjacentBelow}
use Rattle.std.specs.Ordering.{nat_cmp}
use Rattle.std.specs.Cmp.Lexicographic.{slice_cmp}
use Rattle.std.specs.declared.cmp.Ordering.TheVariants.{Less}
use Rattle.rn_value.specs.declared.value.Value.{Value}
use Rattle.rn_model.specs.declared.system.System.{System}
use Rattle.rn_model.specs.declared.system.NetArc.{NetArc}
use Rattle.rn_model.specs.declared.system.Downlink.{Downlink}
use Rattle.rn_model.specs.declared.binding.Node.{Node}
use Rattle.rn_model.specs.declared.binding.Binding.{Binding}
use Rattle.rn_model.specs.Lists.{value_beside}
use Rattle.rn_model.specs.Systems.{transition_of}
use Rattle.rn_model.specs.Evaluation.{Env, worth}
use Rattle.rn_model.specs.Bindings.{Shape, IsNodeOf, env_of}
use Rattle.rn_model.specs.Agreement.{Agrees}
use Rattle.rn_model.specs.Good.{Good}
use Rattle.rn_model.specs.Enabling.{Fits}
use Rattle.rn_model.specs.Derivation.{Hole, finds_values}
use Rattle.rn_growing.specs.declared.decision.Head.{Head}
use Rattle.rn_growing.specs.declared.decision.Decision.{Decision}
use Rattle.rn_growing.specs.declared.decision.Decision.TheVariants.{Entered, Found, Computed}
use Rattle.rn_growing.specs.Decisions.{transition_in, head_of, site_of, Follows}
use Rattle.rn_growing.specs.Equations.{IsForcedTo, IsSolvable}
use Rattle.rn_growing.specs.Turns.{IsEntered, IsVarForced, IsHole, AreInTurn, AreClosed, SameThing}
use Rattle.rn_search.specs.Sought.{Sought, StartsAt, Leads}
use Rattle.rn_search.specs.Missing.{IsKnown}

-- something was decided of the thing that a decision is on
abbrev pub IsDecided : List Decision → Decision → Type 0
IsDecided ds d = (e : Decision) × Contains ds e × SameThing d e

-- A decision is on an item of a node that was entered, or on the entry of a child of such a node.
-- Whether it may come in yet, and with what value, doesn't matter here.
abbrev pub IsAsked : System → List Decision → Decision → Type 0
IsAsked system ds (Entered head None) = ⊥
IsAsked system ds (Entered head (Some from)) = IsEntered ds from.head × ((downlink : Downlink) ×
    (slice_get (transition_in system from.head).downlinks from.downlink ≡ Some downlink)
    × (head.path ≡ from.head.path ++ from.downlink ∷ []))
IsAsked system ds (Found head k v) = IsEntered ds head × ((x : NetArc) ×
    (slice_get (transition_in system head).arcs k ≡ Some x) × (finds_values x.kind ≡ true))
IsAsked system ds (Computed head site way v) = IsEntered ds head × ((hole : Hole) ×
    (hole.way ≡ way) × IsHole system head (site_of site) hole)

-- Whatever is asked is decided: no item is left.
abbrev pub AreDone : System → List Decision → Type 0
AreDone system ds = (d : Decision) → IsAsked system ds d → IsDecided ds d

-- each variable of each node that was entered is forced
abbrev pub AreForced : System → List Decision → Type 0
AreForced system ds =
    (head : Head) → IsEntered ds head →
    All (IsVarForced system ds head) (transition_in system head).vars

-- Where no item may come in, and one is asked that isn't decided, the decisions lead to nothing.
abbrev pub StuckLeadsNowhere : Type 0
StuckLeadsNowhere = (sought : Sought) (ds : List Decision) (d : Decision) →
    AreInTurn sought.system ds → 0 < length ds → AreClosed sought.system ds →
    IsAsked sought.system ds d → ¬ IsDecided ds d → (b : Binding) → ¬ Leads sought ds b

-- Nor do they where no item is left and a variable isn't forced.
abbrev pub LeadingForces : Type 0
LeadingForces = (sought : Sought) (ds : List Decision) (b : Binding) →
    AreInTurn sought.system ds → 0 < length ds → AreDone sought.system ds → Leads sought ds b →
    AreForced sought.system ds

-- Where no item is left, none may come in.
abbrev pub DoneAreClosed : Type 0
DoneAreClosed = (system : System) (ds : List Decision) → 0 < length ds → AreDone system ds →
    AreClosed system ds

-- A forced variable has its value in each binding to which the decisions lead.
abbrev pub ForcedAreItsValues : Type 0
ForcedAreItsValues = (sought : Sought) (ds : List Decision) (b : Binding) (node : Node) (x : ℕ)
    (v : Value) → Leads sought ds b → AreInTurn sought.system ds → 0 < length ds →
    Contains b.nodes node → Contains (transition_of sought.system node).vars x →
    IsForcedTo sought.system ds (λ a. Some (a.var node.path x)) v →
    value_beside (env_of sought.system node).pairs x ≡ Some v

-- Where no item is left and all variables are forced, a binding that follows the decisions is
-- enabled where it has the shape, agrees and fits: it is derived.
abbrev pub FoundIsSo : Type 0
FoundIsSo = (sought : Sought) (ds : List Decision) (b : Binding) → AreInTurn sought.system ds →
    0 < length ds → AreDone sought.system ds → AreForced sought.system ds →
    Shape sought.system b sought.depth → Agrees sought.system b →
    Fits sought.system sought.marking b → StartsAt b sought.start →
    Follows sought.system b ds → Leads sought ds b

-- A value that was computed is that of its operator application, by what is known of its
-- variables.
abbrev pub IsRight : System → List Decision → Decision → Type 0
IsRight system ds (Computed head site way v) = (hole : Hole) × (hole.way ≡ way)
    × IsHole system head (site_of site) hole
    × ((env : Env) × IsKnown system ds head hole.form env × (worth hole.form env ≡ Some v))
IsRight system ds _ = ⊤

abbrev pub AreRight : System → List Decision → Type 0
AreRight system ds = (d : Decision) → Contains ds d → IsRight system ds d

-- A binding is made of what decisions say: its nodes, in ascending order of paths, are just those
-- that were entered, and each variable has the value to which it is forced.
pub record IsMadeOf (system : System) (ds : List Decision) (b : Binding) : Type 0 where
  pub ascending : AllAdjacentBelow (λ x y. slice_cmp nat_cmp x.path y.path ≡ Less)
      b.nodes (length b.nodes)
  pub sound : All (IsNodeOf system) b.nodes
  pub entered : (node : Node) → Contains b.nodes node → IsEntered ds (head_of node)
  pub nodes : (head : Head) → IsEntered ds head →
      (node : Node) × Contains b.nodes node × (head ≡ head_of node)
  pub values : (node : Node) (x : ℕ) → Contains b.nodes node →
      Contains (transition_of system node).vars x → (v : Value) ×
      (value_beside (env_of system node).pairs x ≡ Some v)
      × IsForcedTo system ds (λ a. Some (a.var node.path x)) v

-- Where no item is left, such a binding follows the decisions, if it has the shape and agrees.
abbrev pub MadeFollows : Type 0
MadeFollows = (system : System) (ds : List Decision) (b : Binding) (depth : ℕ) → Good system →
    AreInTurn system ds → AreDone system ds → AreRight system ds →
    IsSolvable system ds → Shape system b depth → Agrees system b → IsMadeOf system ds b →
    Follows system b ds

-- Where no item is left, whatever the decisions lead to is made of them.
abbrev pub LeadingIsMade : Type 0
LeadingIsMade = (sought : Sought) (ds : List Decision) (b : Binding) →
    AreInTurn sought.system ds → 0 < length ds → AreDone sought.system ds → Leads sought ds b →
    IsMadeOf sought.system ds b

-- And one binding at most is made of decisions that can be satisfied.
abbrev pub MadeIsOne : Type 0
MadeIsOne = (system : System) (ds : List Decision) (b c : Binding) → Good system →
    IsSolvable system ds → IsMadeOf system ds b → IsMadeOf system ds c → b ≡ c
