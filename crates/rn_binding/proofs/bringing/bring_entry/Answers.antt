-- By the caller and the target, and the start apart.
use Rattle.std.proofs.Common.{◌∙◌, ap, sym, refl, length, true, false}
use Rattle.std.specs.Prelude.{Some, slice_get}
use Rattle.std.specs.Option.{option_copied}
use Rattle.std.proofs.lemmas.Result.{IfOk-weaker}
use Rattle.rn_model.specs.Systems.{transition_of}
use Rattle.rn_model.specs.Derivation.{entry}
use Rattle.rn_growing.specs.declared.decision.Decision.TheVariants.{Entered}
use Rattle.rn_growing.specs.Decided.{enters}
use Rattle.rn_binding.proofs.Coming.{Comes}
use Rattle.rn_binding.proofs.ComingCalls.{start_out, orphan_out, early_out, no_downlink_out}
use Rattle.rn_binding.proofs.ComingValues.{tested}
use Rattle.rn_binding.proofs.EnteringNodes.{entry_already, entry_out, unforced, entry_comes}
use Rattle.rn_binding.proofs.bringing.bring_entry.Goals as goal
use Rattle.rn_binding.proofs.bringing.bring_entry.Goals.{In_ok-head}

-- the entry comes
comes : (c : In_ok-head) →
    Comes c.args.subject.system.now c.args.subject.binding.now c.args.growing.now
    (Entered c.in_ok-head.head (Some (record { head = c.in_ok-from.from; downlink = c.in-Some.i.now })))
    (entry c.args.headed.now)
comes c =
    entry_comes c.args.subject.system.now c.args.subject.binding.now c.requires.given c.args.growing.now
    c.requires.followed c.args.headed.now c.requires.item
    (tested enters c.was_entered.result false
    c.args.growing.now.decisions c.as_slice-path.result.now c.args.headed.now.path
    c.was_entered.ensures (c.as_slice-path.ensures ∙ ap (λ n. n.path) c.node-node.ensures) c.if-was_entered.false)
    c.in-Some.front.now c.in-Some.i.now
    (sym (c.as_slice-path.ensures ∙ ap (λ n. n.path) c.node-node.ensures) ∙ c.in-Some.ensures.cases.0) c.in-Some-headed_on.caller.now
    (sym c.headed_on.ensures.node ∙ ap option_copied c.in-Some-headed_on.is)
    c.in_ok-from.from (c.in_ok-from.ensures ∙ c.head.ensures) c.in-Some-get.downlink.now
    (ap (λ t. slice_get t.downlinks c.in-Some.i.now) (sym (c.transition_of.ensures ∙ ap (transition_of c.args.subject.system.now) c.node.ensures))
    ∙ sym c.get.ensures.value ∙ ap option_copied c.in-Some-get.is)
    c.in_ok-head.head c.in-Some-2._inst (c.in_ok-head.ensures ∙ c.head-2.ensures) c.in-Some-headed_on.ensures.there
    (tested enters c.was_entered-2.result true
    c.args.growing.now.decisions c.in-Some.front.now c.in-Some.front.now
    c.was_entered-2.ensures refl c.if-not-was_entered.false)
    ((c.in_ok-_inst.ensures c.in-Some-2._inst).0 c.in-Some-2.is)

pub returns-then-was_entered-clause-brings : goal.returns-then-was_entered-clause-brings
returns-then-was_entered-clause-brings c =
    entry_already c.args.subject.system.now c.args.subject.binding.now c.requires.given c.args.growing.now
    c.requires.followed c.args.headed.now c.requires.item
    (tested enters c.was_entered.result true
    c.args.growing.now.decisions c.as_slice-path.result.now c.args.headed.now.path
    c.was_entered.ensures (c.as_slice-path.ensures ∙ ap (λ n. n.path) c.node-node.ensures) c.if-was_entered.true)

pub returns-in_default-clause-brings : goal.returns-in_default-clause-brings
returns-in_default-clause-brings c =
    entry_out c.args.subject.system.now c.args.subject.binding.now c.requires.given c.args.growing.now
    c.requires.followed c.args.headed.now c.requires.item
    (start_out c.args.subject.system.now c.args.subject.binding.now c.requires.given c.args.growing.now.decisions
    c.requires.followed.turns c.args.headed.now
    (tested enters c.was_entered.result false
    c.args.growing.now.decisions c.as_slice-path.result.now c.args.headed.now.path
    c.was_entered.ensures (c.as_slice-path.ensures ∙ ap (λ n. n.path) c.node-node.ensures) c.if-was_entered.false) (ap length (sym (c.as_slice-path.ensures ∙ ap (λ n. n.path) c.node-node.ensures)) ∙ c.in_default.ensures.cases))

pub returns-in_default-headed_on-clause-brings : goal.returns-in_default-headed_on-clause-brings
returns-in_default-headed_on-clause-brings c =
    entry_out c.args.subject.system.now c.args.subject.binding.now c.requires.given c.args.growing.now
    c.requires.followed c.args.headed.now c.requires.item
    (orphan_out c.args.subject.system.now c.args.subject.binding.now c.requires.given c.args.growing.now.decisions
    c.requires.followed.turns c.args.headed.now
    (tested enters c.was_entered.result false
    c.args.growing.now.decisions c.as_slice-path.result.now c.args.headed.now.path
    c.was_entered.ensures (c.as_slice-path.ensures ∙ ap (λ n. n.path) c.node-node.ensures) c.if-was_entered.false) c.in-Some.front.now c.in-Some.i.now
    (sym (c.as_slice-path.ensures ∙ ap (λ n. n.path) c.node-node.ensures) ∙ c.in-Some.ensures.cases.0)
    (sym c.headed_on.ensures.node ∙ ap option_copied c.in_default-headed_on.is))

pub returns-then-not-was_entered-clause-brings : goal.returns-then-not-was_entered-clause-brings
returns-then-not-was_entered-clause-brings c =
    entry_out c.args.subject.system.now c.args.subject.binding.now c.requires.given c.args.growing.now
    c.requires.followed c.args.headed.now c.requires.item
    (early_out c.args.subject.system.now c.args.subject.binding.now c.requires.given c.args.growing.now.decisions
    c.requires.followed.turns c.args.headed.now
    (tested enters c.was_entered.result false
    c.args.growing.now.decisions c.as_slice-path.result.now c.args.headed.now.path
    c.was_entered.ensures (c.as_slice-path.ensures ∙ ap (λ n. n.path) c.node-node.ensures) c.if-was_entered.false) c.in-Some.front.now c.in-Some.i.now
    (sym (c.as_slice-path.ensures ∙ ap (λ n. n.path) c.node-node.ensures) ∙ c.in-Some.ensures.cases.0)
    (tested enters c.was_entered-2.result false
    c.args.growing.now.decisions c.in-Some.front.now c.in-Some.front.now
    c.was_entered-2.ensures refl c.if-not-was_entered.true))

pub returns-in_default-get-clause-brings : goal.returns-in_default-get-clause-brings
returns-in_default-get-clause-brings c =
    entry_out c.args.subject.system.now c.args.subject.binding.now c.requires.given c.args.growing.now
    c.requires.followed c.args.headed.now c.requires.item
    (no_downlink_out c.args.subject.system.now c.args.subject.binding.now c.requires.given c.args.growing.now.decisions
    c.requires.followed.turns c.args.headed.now
    (tested enters c.was_entered.result false
    c.args.growing.now.decisions c.as_slice-path.result.now c.args.headed.now.path
    c.was_entered.ensures (c.as_slice-path.ensures ∙ ap (λ n. n.path) c.node-node.ensures) c.if-was_entered.false) c.in-Some.front.now c.in-Some.i.now
    (sym (c.as_slice-path.ensures ∙ ap (λ n. n.path) c.node-node.ensures) ∙ c.in-Some.ensures.cases.0) c.in-Some-headed_on.caller.now
    (sym c.headed_on.ensures.node ∙ ap option_copied c.in-Some-headed_on.is)
    (ap (λ t. slice_get t.downlinks c.in-Some.i.now) (sym (c.transition_of.ensures ∙ ap (transition_of c.args.subject.system.now) c.node.ensures))
    ∙ sym c.get.ensures.value ∙ ap option_copied c.in_default-get.is))

pub returns-in_default-2-clause-brings : goal.returns-in_default-2-clause-brings
returns-in_default-2-clause-brings c =
    unforced c.args.subject.system.now c.args.subject.binding.now c.requires.given c.args.growing.now
    c.requires.followed c.args.headed.now c.requires.item
    (tested enters c.was_entered.result false
    c.args.growing.now.decisions c.as_slice-path.result.now c.args.headed.now.path
    c.was_entered.ensures (c.as_slice-path.ensures ∙ ap (λ n. n.path) c.node-node.ensures) c.if-was_entered.false)
    c.in-Some.front.now c.in-Some.i.now
    (sym (c.as_slice-path.ensures ∙ ap (λ n. n.path) c.node-node.ensures) ∙ c.in-Some.ensures.cases.0) c.in-Some-headed_on.caller.now
    (sym c.headed_on.ensures.node ∙ ap option_copied c.in-Some-headed_on.is)
    c.in_ok-from.from (c.in_ok-from.ensures ∙ c.head.ensures) c.in-Some-get.downlink.now
    (ap (λ t. slice_get t.downlinks c.in-Some.i.now) (sym (c.transition_of.ensures ∙ ap (transition_of c.args.subject.system.now) c.node.ensures))
    ∙ sym c.get.ensures.value ∙ ap option_copied c.in-Some-get.is)
    (λ inst told. c.in_default-2.not-Some inst ((c.in_ok-_inst.ensures inst).1 told))

pub enter-requires-clause-may_come : goal.enter-requires-clause-may_come
enter-requires-clause-may_come c = (comes (goal.at.enter-requires-clause-may_come c).In_ok-head).0

pub enter-requires-clause-fresh : goal.enter-requires-clause-fresh
enter-requires-clause-fresh c = (comes (goal.at.enter-requires-clause-fresh c).In_ok-head).1

pub returns-clause-brings : goal.returns-clause-brings
returns-clause-brings c =
    IfOk-weaker _ _ _ (λ yes tries. ((comes (goal.at.returns-clause-brings c).In_ok-head).2 c.enter.new.self yes tries).0)
    c.enter.ensures.tries

pub returns-clause-followed : goal.returns-clause-followed
returns-clause-followed c =
    IfOk-weaker _ _ _ (λ yes tries. ((comes (goal.at.returns-clause-followed c).In_ok-head).2 c.enter.new.self yes tries).1)
    c.enter.ensures.tries
