use Rattle.std.proofs.Common.{ℕ, ◌≡◌, ◌<◌}
use Rattle.std.specs.Prelude.{Some, slice_get}
use Rattle.rn_model.specs.declared.system.Downlink.{Downlink}
use Rattle.rn_model.specs.Systems.{transition_of}
use Rattle.rn_agree.specs.link.Agreeing.{CallAgreesAt}
use Rattle.rn_agree.proofs.calls.calls_agree.Given as goal

abbrev pub invariant-loop-i : goal.invariant-loop-i
invariant-loop-i l = (i : ℕ) (downlink : Downlink) → i < l.i →
    slice_get (transition_of l.system l.caller).downlinks i ≡ Some downlink →
    CallAgreesAt l.system l.binding l.caller i downlink
