-- Decisions that come in one at a time.
use Rattle.std.specs.Prelude.{ℕ, ◌≡◌, ◌<◌, List, [], ◌∷◌, ◌++◌, true, Option, Some, None, take}
use Rattle.std.specs.Prelude.{slice_get, Contains, All}
use Rattle.rn_model.specs.declared.expr.Expr.{Expr}
use Rattle.rn_model.specs.declared.system.System.{System}
use Rattle.rn_model.specs.declared.system.NetArc.{NetArc}
use Rattle.rn_model.specs.declared.system.Downlink.{Downlink}
use Rattle.rn_model.specs.Systems.{vars_in}
use Rattle.rn_model.specs.Derivation.{Hole, holes_in, finds_values, sites_of, target}
use Rattle.rn_model.specs.Derivation as D
use Rattle.rn_growing.specs.declared.decision.Head.{Head}
use Rattle.rn_growing.specs.declared.decision.Caller.{Caller}
use Rattle.rn_growing.specs.declared.decision.Decision.{Decision}
use Rattle.rn_growing.specs.declared.decision.Decision.TheVariants.{Entered, Found, Computed}
use Rattle.rn_growing.specs.Decisions.{site_of, transition_in}
use Rattle.rn_growing.specs.Equations.{read_at, IsForced}

-- the node was entered
abbrev pub IsEntered : List Decision → Head → Type 0
IsEntered decisions head = (caller : Option Caller) × Contains decisions (Entered head caller)

-- a variable of a node is forced
abbrev pub IsVarForced : System → List Decision → Head → ℕ → Type 0
IsVarForced system decisions head x = IsForced system decisions (λ a. Some (a.var head.path x))

-- a node's operator application
abbrev pub IsHole : System → Head → D.Site → Hole → Type 0
IsHole system head site hole =
    (e : Expr) × Contains (sites_of (transition_in system head)) (site, e)
    × Contains (holes_in e) hole

-- a child, once its caller is in and the target of its downlink is forced
pub record MayBeCalled (system : System) (decisions : List Decision) (head : Head) (from : Caller)
    : Type 0 where
  pub entered : IsEntered decisions from.head
  pub downlink : Downlink
  pub there : slice_get (transition_in system from.head).downlinks from.downlink ≡ Some downlink
  pub path : head.path ≡ from.head.path ++ from.downlink ∷ []
  pub forced : IsForced system decisions
      (λ a. read_at a from.head (target from.downlink) downlink.target)

-- When a decision may come in, by those before it.
abbrev pub MayCome : System → List Decision → Decision → Type 0
MayCome system decisions (Entered head None) = (decisions ≡ []) × (head.path ≡ [])
MayCome system decisions (Entered head (Some from)) = MayBeCalled system decisions head from
MayCome system decisions (Found head k v) = IsEntered decisions head × ((x : NetArc) ×
    (slice_get (transition_in system head).arcs k ≡ Some x) × (finds_values x.kind ≡ true))
MayCome system decisions (Computed head site way v) = IsEntered decisions head × ((hole : Hole) ×
    (hole.way ≡ way) × IsHole system head (site_of site) hole
    × All (IsVarForced system decisions head) (vars_in hole.form))

-- Two decisions are on one thing.
abbrev pub SameThing : Decision → Decision → Type 0
SameThing (Entered head caller) (Entered other from) = head.path ≡ other.path
SameThing (Found head k v) (Found other j w) = (head.path ≡ other.path) × (k ≡ j)
SameThing (Computed head site way v) (Computed other at along w) =
    (head.path ≡ other.path) × (site_of site ≡ site_of at) × (way ≡ along)
SameThing (Entered head caller) _ = ⊥
SameThing (Found head k v) _ = ⊥
SameThing (Computed head site way v) _ = ⊥

-- Each decision might come in when it did, and none is on the thing of an earlier one.
pub record AreInTurn (system : System) (decisions : List Decision) : Type 0 where
  pub came : (k : ℕ) (d : Decision) → slice_get decisions k ≡ Some d →
      MayCome system (take k decisions) d
  pub once : (j k : ℕ) (d e : Decision) → j < k → slice_get decisions j ≡ Some d →
      slice_get decisions k ≡ Some e → ¬ SameThing d e

-- whatever may come in is decided
abbrev pub AreClosed : System → List Decision → Type 0
AreClosed system decisions = (d : Decision) → MayCome system decisions d →
    (e : Decision) × Contains decisions e × SameThing d e
