-- By the value to which the target is forced.
use Rattle.std.proofs.Common.{◌∙◌, ap, length, subst, arith}
use Rattle.std.specs.Prelude.{Some, None}
use Rattle.std.proofs.lemmas.Option.{slice_get_within}
use Rattle.rn_search.specs.declared.point.Point.TheVariants as P
use Rattle.rn_search.specs.Offering.{alternatives}
use Rattle.rn_looking.specs.Calling.{IsCalledOn}
use Rattle.rn_looking.proofs.CallLooks.{chooses_call, is_too_deep, is_unmade, names_no_instance}
use Rattle.rn_looking.proofs.CallLooks.{target_kind, target_known, waits_for_target}
use Rattle.rn_looking.proofs.calls.look_for_answer.Goals as goal

pub downlink_at-downlink-requires : goal.downlink_at-downlink-requires
downlink_at-downlink-requires c =
    slice_get_within c.args.at.transition.now.downlinks c.args.i c.requires.open.downlink
    c.requires.open.there

pub target_of-requires : goal.target_of-requires
target_of-requires c =
    target_kind c.args.at.problem.now c.args.at.growing.now c.args.at.node c.args.at.head.now
    c.args.at.transition.now c.requires.at c.args.i c.downlink_at-downlink.result.now
    c.downlink_at-downlink.ensures

pub returns-in_default : goal.returns-in_default
returns-in_default c =
    waits_for_target c.args.at.problem.now c.args.at.growing.now c.args.at.node c.args.at.head.now
    c.args.at.transition.now c.requires.at c.args.i c.requires.open _ c.in_default.not-Some
    (target_known c.args.at.problem.now c.args.at.growing.now c.args.at.node c.args.at.head.now
    c.args.at.transition.now c.requires.at c.args.i c.requires.open
    c.downlink_at-downlink.result.now _ c.downlink_at-downlink.ensures c.in_ok-value.ensures)

pub returns-in_default-value : goal.returns-in_default-value
returns-in_default-value c =
    names_no_instance c.args.at.problem.now c.args.at.growing.now c.args.at.node c.args.at.head.now
    c.args.at.transition.now c.requires.at c.args.i c.requires.open _ c.in-Some.value c.in-Some.is
    (target_known c.args.at.problem.now c.args.at.growing.now c.args.at.node c.args.at.head.now
    c.args.at.transition.now c.requires.at c.args.i c.requires.open
    c.downlink_at-downlink.result.now _ c.downlink_at-downlink.ensures c.in_ok-value.ensures)
    c.in_default-value.not-Inst

pub returns-then-len-depth : goal.returns-then-len-depth
returns-then-len-depth c =
    let long = ap length c.deref.ensures in
    is_too_deep c.args.at.problem.now c.args.at.growing.now c.args.at.node c.args.at.head.now
    c.args.at.transition.now c.requires.at c.args.i c.requires.open (omega (arith, long))

pub returns-in_default-called_on : goal.returns-in_default-called_on
returns-in_default-called_on c =
    is_unmade c.args.at.problem.now c.args.at.growing.now c.args.at.node c.args.at.head.now
    c.args.at.transition.now c.requires.at c.args.i c.requires.open _ c.in-Some.value
    c.in-Inst.inst c.in-Some.is c.in-Inst.is
    (target_known c.args.at.problem.now c.args.at.growing.now c.args.at.node c.args.at.head.now
    c.args.at.transition.now c.requires.at c.args.i c.requires.open
    c.downlink_at-downlink.result.now _ c.downlink_at-downlink.ensures c.in_ok-value.ensures)
    (subst (λ s. IsCalledOn s c.args.at.growing.now.decisions c.in-Inst.inst None)
    c.system.ensures.same
    (subst (λ ds. IsCalledOn c.system.result.now ds c.in-Inst.inst None)
    c.decisions-decisions.ensures c.in_default-called_on.ensures))

pub returns : goal.returns
returns c =
    let long = ap length c.deref.ensures in
    chooses_call c.args.at.problem.now c.args.at.growing.now c.args.at.node c.args.at.head.now
    c.args.at.transition.now c.requires.at c.args.i c.requires.open _ c.in-Some.value
    c.in-Inst.inst c.in-Some-called_on.called c.alternatives-of.result c.in-Some.is c.in-Inst.is
    (target_known c.args.at.problem.now c.args.at.growing.now c.args.at.node c.args.at.head.now
    c.args.at.transition.now c.requires.at c.args.i c.requires.open
    c.downlink_at-downlink.result.now _ c.downlink_at-downlink.ensures c.in_ok-value.ensures)
    (subst (λ s. IsCalledOn s c.args.at.growing.now.decisions c.in-Inst.inst
    (Some c.in-Some-called_on.called)) c.system.ensures.same
    (subst (λ ds. IsCalledOn c.system.result.now ds c.in-Inst.inst
    (Some c.in-Some-called_on.called)) c.decisions-decisions.ensures
    c.in-Some-called_on.ensures))
    (omega (arith, long))
    (c.alternatives-of.ensures.count
    ∙ ap (λ ds. alternatives c.args.at.problem.now ds (P.Call c.args.at.node c.args.i
    c.in-Some-called_on.called)) c.decisions-decisions.ensures)
