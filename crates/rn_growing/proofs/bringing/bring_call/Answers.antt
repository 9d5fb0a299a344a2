use Rattle.std.proofs.Common.{◌≡◌, sym, ap, ◌∙◌, subst}
use Rattle.std.specs.Prelude.{Some, IfOk, slice_get}
use Rattle.rn_model.specs.Systems.{uplink_args}
use Rattle.rn_growing.specs.Decisions.{transition_in}
use Rattle.rn_growing.specs.link.Entering.{AllHold, ArgHolds, ArgsHold}
use Rattle.rn_growing.specs.link.Grown.{BringsIn}
use Rattle.rn_growing.proofs.BringingSteps.{alike_answer, call_is}
use Rattle.rn_growing.proofs.bringing.bring_call.Goals as goal

pub returns-clause-brings : goal.returns-clause-brings
returns-clause-brings c =
    let from = c.in-Some.from in
    let downlink = c.in-Some-get.downlink.now in
    let there : slice_get (transition_in c.args.system.now from.head).downlinks from.downlink ≡
    Some downlink =
    ap (λ t. slice_get t.downlinks from.downlink) (sym c.in-Some-transition_in.ensures)
    ∙ sym c.in-Some-get.ensures.value in
    let brings : IfOk c.bring_args.result
    (λ told. BringsIn c.args.laid.now
    (AllHold (ArgHolds from downlink.args c.args.head.now
    (uplink_args (transition_in c.args.system.now c.args.head.now)))) c.bring_args.new.laid
    told) =
    subst (λ es. IfOk c.bring_args.result
    (λ told. BringsIn c.args.laid.now
    (AllHold (ArgHolds from es c.args.head.now
    (uplink_args (transition_in c.args.system.now c.args.head.now)))) c.bring_args.new.laid
    told)) c.as_slice.ensures
    (subst (λ fs. IfOk c.bring_args.result
    (λ told. BringsIn c.args.laid.now
    (AllHold (ArgHolds from c.as_slice.result.now c.args.head.now fs))
    c.bring_args.new.laid told)) c.args_of.ensures c.bring_args.ensures.brings) in
    subst (λ o. IfOk c.bring_args.result
    (λ told. BringsIn c.args.laid.now (ArgsHold c.args.system.now c.args.head.now o)
    c.bring_args.new.laid told)) (sym c.in-Some.is)
    (alike_answer c.bring_args.result c.args.laid.now c.bring_args.new.laid
    (AllHold (ArgHolds from downlink.args c.args.head.now
    (uplink_args (transition_in c.args.system.now c.args.head.now))))
    (ArgsHold c.args.system.now c.args.head.now (Some from))
    (call_is c.args.system.now c.args.head.now from downlink there) brings)
