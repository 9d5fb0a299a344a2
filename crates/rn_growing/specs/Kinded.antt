-- Kinds of what decisions force.
use Rattle.std.specs.Prelude.{ℕ, ◌≡◌, ◌<◌, List, Some, slice_get, length, Contains}
use Rattle.rn_value.specs.Kinds.{HasKind}
use Rattle.rn_value.specs.declared.value.Kind.{Kind}
use Rattle.rn_value.specs.declared.value.Value.{Value}
use Rattle.rn_model.specs.declared.expr.Expr.{Expr}
use Rattle.rn_model.specs.declared.system.System.{System}
use Rattle.rn_model.specs.declared.system.NetArc.{NetArc}
use Rattle.rn_model.specs.declared.system.Downlink.{Downlink}
use Rattle.rn_model.specs.declared.system.Uplink.{Uplink}
use Rattle.rn_model.specs.Systems.{net_at, var_kind, place_kind}
use Rattle.rn_model.specs.Kinds.{HasExprKind}
use Rattle.rn_model.specs.Agreement.{inscribed_kind}
use Rattle.rn_model.specs.Good.{Good}
use Rattle.rn_model.specs.Derivation as D
use Rattle.rn_growing.specs.declared.decision.Head.{Head}
use Rattle.rn_growing.specs.declared.decision.Caller.{Caller}
use Rattle.rn_growing.specs.declared.decision.Decision.{Decision}
use Rattle.rn_growing.specs.declared.decision.Decision.TheVariants.{Entered, Found, Computed}
use Rattle.rn_growing.specs.Decisions.{transition_in}
use Rattle.rn_growing.specs.Equations.{IsForcedTo, IsSolvable, read_at}
use Rattle.rn_growing.specs.Turns.{IsEntered, AreInTurn}

-- A decision brings in what has its kind: a node of the system, whose uplink is of the channel of
-- the downlink that calls it; a value of its arc's kind; a whole number.
abbrev pub IsKinded : System → Decision → Type 0
IsKinded system (Entered head caller) =
    (head.net < length system.nets)
    × (head.transition < length (net_at system head.net).transitions)
    × ((from : Caller) (downlink : Downlink) (uplink : Uplink) → caller ≡ Some from →
    slice_get (transition_in system from.head).downlinks from.downlink ≡ Some downlink →
    (transition_in system head).uplink ≡ Some uplink → downlink.channel ≡ uplink.channel)
IsKinded system (Found head k v) = (x : NetArc) →
    slice_get (transition_in system head).arcs k ≡ Some x →
    HasKind v (inscribed_kind x.kind (place_kind system head.net x.place))
IsKinded system (Computed head site way v) = HasKind v Kind.Int

-- each of some decisions does
abbrev pub AreKinded : System → List Decision → Type 0
AreKinded system ds = (d : Decision) → Contains ds d → IsKinded system d

-- What such decisions in turn force a node that was entered to has its kind, where they can be
-- satisfied: variables, and expressions at their sites.
abbrev pub KindedForceKinds : Type 0
KindedForceKinds = (system : System) (ds : List Decision) (head : Head) → Good system →
    AreInTurn system ds → AreKinded system ds → IsSolvable system ds → IsEntered ds head →
    ((x : ℕ) (v : Value) → IsForcedTo system ds (λ a. Some (a.var head.path x)) v →
    HasKind v (var_kind system head.net x))
    × ((site : D.Site) (e : Expr) (kind : Kind) (v : Value) →
    HasExprKind (var_kind system head.net) e kind →
    IsForcedTo system ds (λ a. read_at a head site e) v → HasKind v kind)
