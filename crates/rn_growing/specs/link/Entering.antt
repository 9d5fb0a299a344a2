-- The equations that the entry of a node brings, one at a time. It only connects the code's steps
-- to what is promised.
use Rattle.std.specs.Prelude.{ℕ, ◌≡◌, ◌<◌, List, Option, Some, slice_get}
use Rattle.rn_value.specs.declared.value.InstRef.TheVariants.{New}
use Rattle.rn_value.specs.declared.value.Value.TheVariants as Value
use Rattle.rn_model.specs.declared.expr.Expr.{Expr}
use Rattle.rn_model.specs.declared.system.System.{System}
use Rattle.rn_model.specs.declared.system.Creation.{Creation}
use Rattle.rn_model.specs.declared.system.Downlink.{Downlink}
use Rattle.rn_model.specs.Lists.{HaveOneValue}
use Rattle.rn_model.specs.Systems.{uplink_args}
use Rattle.rn_model.specs.Derivation.{Assignment, left, right, uplink_arg, downlink_arg}
use Rattle.rn_growing.specs.declared.decision.Head.{Head}
use Rattle.rn_growing.specs.declared.decision.Caller.{Caller}
use Rattle.rn_growing.specs.Decisions.{transition_in}
use Rattle.rn_growing.specs.Equations.{read_at}

-- the equality at an index, where there is one
abbrev pub EqualityHolds : Head → List (Expr × Expr) → Assignment → ℕ → Type 0
EqualityHolds head equalities a k = (e : Expr × Expr) → slice_get equalities k ≡ Some e →
    HaveOneValue (read_at a head (left k) e.0) (read_at a head (right k) e.1)

-- the creation at an index, where there is one
abbrev pub CreationHolds : Head → List Creation → Assignment → ℕ → Type 0
CreationHolds head creations a j = (c : Creation) → slice_get creations j ≡ Some c →
    a.var head.path c.var ≡ Value.Inst (New head.path j)

-- the arguments at an index, where there are two
abbrev pub ArgHolds : Caller → List Expr → Head → List Expr → Assignment → ℕ → Type 0
ArgHolds from args head others a k = (e f : Expr) → slice_get args k ≡ Some e →
    slice_get others k ≡ Some f →
    HaveOneValue (read_at a from.head (downlink_arg from.downlink k) e)
    (read_at a head (uplink_arg k) f)

-- each equation below an index holds
abbrev pub AllBelow : (Assignment → ℕ → Type 0) → ℕ → Assignment → Type 0
AllBelow holds n a = (k : ℕ) → k < n → holds a k

-- all equations hold
abbrev pub AllHold : (Assignment → ℕ → Type 0) → Assignment → Type 0
AllHold holds a = (k : ℕ) → holds a k

-- all arguments of the downlink that calls a node hold
abbrev pub ArgsHold : System → Head → Option Caller → Assignment → Type 0
ArgsHold system head caller a = (from : Caller) (downlink : Downlink) → caller ≡ Some from →
    slice_get (transition_in system from.head).downlinks from.downlink ≡ Some downlink →
    AllHold (ArgHolds from downlink.args head (uplink_args (transition_in system head))) a
