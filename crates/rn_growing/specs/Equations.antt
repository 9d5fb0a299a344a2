-- The equations that decisions bring.
use Rattle.std.specs.Prelude.{ℕ, ◌≡◌, List, Option, Some, slice_get, Contains}
use Rattle.rn_value.specs.declared.value.InstRef.TheVariants.{New}
use Rattle.rn_value.specs.declared.value.Value.{Value}
use Rattle.rn_model.specs.declared.expr.Expr.{Expr}
use Rattle.rn_model.specs.declared.system.System.{System}
use Rattle.rn_model.specs.declared.system.NetArc.{NetArc}
use Rattle.rn_model.specs.declared.system.Creation.{Creation}
use Rattle.rn_model.specs.declared.system.Downlink.{Downlink}
use Rattle.rn_model.specs.Lists.{HaveOneValue}
use Rattle.rn_model.specs.Systems.{uplink_args}
use Rattle.rn_model.specs.Derivation.{Assignment, term_value, left, right, uplink_arg}
use Rattle.rn_model.specs.Derivation.{downlink_arg, arc}
use Rattle.rn_model.specs.Derivation as D
use Rattle.rn_growing.specs.declared.decision.Head.{Head}
use Rattle.rn_growing.specs.declared.decision.Caller.{Caller}
use Rattle.rn_growing.specs.declared.decision.Decision.{Decision}
use Rattle.rn_growing.specs.declared.decision.Decision.TheVariants.{Entered, Found, Computed}
use Rattle.rn_growing.specs.Decisions.{site_of, transition_in}

-- the value of an expression that stands at a site of a node, as a term over the unknowns
abbrev pub read_at : Assignment → Head → D.Site → Expr → Option Value
read_at a head site e =
    term_value e (record { this = head.inst; var = a.var head.path; hole = a.hole head.path site })

-- What the entry of a node brings: its equalities, its creations, and the arguments of the
-- downlink that calls it.
pub record EntryBrings (system : System) (a : Assignment) (head : Head) (caller : Option Caller)
    : Type 0 where
  pub equalities : (k : ℕ) (e : Expr × Expr) →
      slice_get (transition_in system head).equalities k ≡ Some e →
      HaveOneValue (read_at a head (left k) e.0) (read_at a head (right k) e.1)
  pub creations : (j : ℕ) (c : Creation) →
      slice_get (transition_in system head).creations j ≡ Some c →
      a.var head.path c.var ≡ Value.Inst (New head.path j)
  pub args : (from : Caller) (downlink : Downlink) → caller ≡ Some from →
      slice_get (transition_in system from.head).downlinks from.downlink ≡ Some downlink →
      (k : ℕ) (e f : Expr) → slice_get downlink.args k ≡ Some e →
      slice_get (uplink_args (transition_in system head)) k ≡ Some f →
      HaveOneValue (read_at a from.head (downlink_arg from.downlink k) e)
      (read_at a head (uplink_arg k) f)

-- an assignment satisfies what a decision brings
abbrev pub Brings : System → Assignment → Decision → Type 0
Brings system a (Entered head caller) = EntryBrings system a head caller
Brings system a (Found head k v) = (x : NetArc) →
    slice_get (transition_in system head).arcs k ≡ Some x →
    read_at a head (arc k) x.inscription ≡ Some v
Brings system a (Computed head site way v) = a.hole head.path (site_of site) way ≡ v

-- and what each of some decisions brings
abbrev pub Solves : System → List Decision → Assignment → Type 0
Solves system decisions a = (d : Decision) → Contains decisions d → Brings system a d

-- A term is forced to a value by decisions where all assignments that satisfy what they bring give
-- it that one.
abbrev pub IsForcedTo :
    System → List Decision → (Assignment → Option Value) → Value → Type 0
IsForcedTo system decisions term v =
    (a : Assignment) → Solves system decisions a → term a ≡ Some v

abbrev pub IsForced : System → List Decision → (Assignment → Option Value) → Type 0
IsForced system decisions term = (v : Value) × IsForcedTo system decisions term v

-- some assignment satisfies what decisions bring
abbrev pub IsSolvable : System → List Decision → Type 0
IsSolvable system decisions = (a : Assignment) × Solves system decisions a
