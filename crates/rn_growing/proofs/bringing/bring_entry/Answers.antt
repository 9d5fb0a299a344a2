use Rattle.std.proofs.Common.{◌≡◌, ◌≤◌, length, ap, sym, ◌∙◌, subst}
use Rattle.std.specs.Prelude.{true, false}
use Rattle.rn_growing.specs.Decisions.{transition_in}
use Rattle.rn_growing.specs.link.Entering.{AllHold, ArgsHold, CreationHolds, EqualityHolds}
use Rattle.rn_growing.specs.Equations.{EntryBrings}
use Rattle.rn_growing.specs.link.Grown.{BringsIn}
use Rattle.rn_growing.specs.link.Laid.{Adds}
use Rattle.rn_growing.proofs.BringingSteps.{entry_is, never_part, then_brings, then_brings_answer}
use Rattle.rn_growing.proofs.GoodSystems.{few_in_node}
use Rattle.rn_growing.proofs.LaidSteps.{grows_through}
use Rattle.rn_growing.proofs.bringing.bring_entry.Goals as goal

pub bring_creations-requires : goal.bring_creations-requires
bring_creations-requires c =
    subst (λ cs. length cs ≤ 256)
    (ap (λ t. t.creations) (sym c.in-Some.ensures) ∙ sym c.as_slice-2.ensures)
    (few_in_node c.args.system.now c.args.head.now c.requires)

pub returns-then-not-branch-2-clause-brings : goal.returns-then-not-branch-2-clause-brings
returns-then-not-branch-2-clause-brings c =
    let is : transition_in c.args.system.now c.args.head.now ≡ c.in-Some.transition.now =
    sym c.in-Some.ensures in
    let equalities : Adds c.args.laid.now
    (AllHold (EqualityHolds c.args.head.now c.in-Some.transition.now.equalities))
    c.bring_equalities.new.laid =
    subst (λ es. Adds c.args.laid.now (AllHold (EqualityHolds c.args.head.now es))
    c.bring_equalities.new.laid) c.as_slice.ensures
    (rw c.if-not-branch.false at c.in_ok-bring_equalities.ensures.brings) in
    let creations : BringsIn c.bring_equalities.new.laid
    (AllHold (CreationHolds c.args.head.now c.in-Some.transition.now.creations))
    c.bring_creations.new.laid false =
    subst (λ cs. BringsIn c.bring_equalities.new.laid
    (AllHold (CreationHolds c.args.head.now cs)) c.bring_creations.new.laid false)
    c.as_slice-2.ensures
    (rw c.if-not-branch-2.true at c.in_ok-bring_creations.ensures.brings) in
    let own : BringsIn c.args.laid.now
    (λ a. AllHold (EqualityHolds c.args.head.now c.in-Some.transition.now.equalities) a ×
    AllHold (CreationHolds c.args.head.now c.in-Some.transition.now.creations) a)
    c.bring_creations.new.laid false =
    then_brings c.args.laid.now c.bring_equalities.new.laid c.bring_creations.new.laid
    (AllHold (EqualityHolds c.args.head.now c.in-Some.transition.now.equalities))
    (AllHold (CreationHolds c.args.head.now c.in-Some.transition.now.creations))
    (λ a. AllHold (EqualityHolds c.args.head.now c.in-Some.transition.now.equalities) a ×
    AllHold (CreationHolds c.args.head.now c.in-Some.transition.now.creations) a) false
    equalities c.bring_equalities.ensures.grows creations
    (λ a. (λ held. held, λ held. held)) in
    never_part c.args.laid.now c.bring_creations.new.laid
    (λ a. AllHold (EqualityHolds c.args.head.now c.in-Some.transition.now.equalities) a ×
    AllHold (CreationHolds c.args.head.now c.in-Some.transition.now.creations) a)
    (λ a. EntryBrings c.args.system.now a c.args.head.now c.args.caller.now) own
    (λ a held. ((entry_is c.args.system.now c.args.head.now c.args.caller.now
    c.in-Some.transition.now is a).0 held).0)

pub returns-clause-brings : goal.returns-clause-brings
returns-clause-brings c =
    let is : transition_in c.args.system.now c.args.head.now ≡ c.in-Some.transition.now =
    sym c.in-Some.ensures in
    let equalities : Adds c.args.laid.now
    (AllHold (EqualityHolds c.args.head.now c.in-Some.transition.now.equalities))
    c.bring_equalities.new.laid =
    subst (λ es. Adds c.args.laid.now (AllHold (EqualityHolds c.args.head.now es))
    c.bring_equalities.new.laid) c.as_slice.ensures
    (rw c.if-not-branch.false at c.in_ok-bring_equalities.ensures.brings) in
    let creations : BringsIn c.bring_equalities.new.laid
    (AllHold (CreationHolds c.args.head.now c.in-Some.transition.now.creations))
    c.bring_creations.new.laid true =
    subst (λ cs. BringsIn c.bring_equalities.new.laid
    (AllHold (CreationHolds c.args.head.now cs)) c.bring_creations.new.laid true)
    c.as_slice-2.ensures
    (rw c.if-not-branch-2.false at c.in_ok-bring_creations.ensures.brings) in
    let own : BringsIn c.args.laid.now
    (λ a. AllHold (EqualityHolds c.args.head.now c.in-Some.transition.now.equalities) a ×
    AllHold (CreationHolds c.args.head.now c.in-Some.transition.now.creations) a)
    c.bring_creations.new.laid true =
    then_brings c.args.laid.now c.bring_equalities.new.laid c.bring_creations.new.laid
    (AllHold (EqualityHolds c.args.head.now c.in-Some.transition.now.equalities))
    (AllHold (CreationHolds c.args.head.now c.in-Some.transition.now.creations))
    (λ a. AllHold (EqualityHolds c.args.head.now c.in-Some.transition.now.equalities) a ×
    AllHold (CreationHolds c.args.head.now c.in-Some.transition.now.creations) a) true
    equalities c.bring_equalities.ensures.grows creations
    (λ a. (λ held. held, λ held. held)) in
    then_brings_answer c.bring_call.result c.args.laid.now c.bring_creations.new.laid
    c.bring_call.new.laid
    (λ a. AllHold (EqualityHolds c.args.head.now c.in-Some.transition.now.equalities) a ×
    AllHold (CreationHolds c.args.head.now c.in-Some.transition.now.creations) a)
    (ArgsHold c.args.system.now c.args.head.now c.args.caller.now)
    (λ a. EntryBrings c.args.system.now a c.args.head.now c.args.caller.now)
    own (grows_through c.args.laid.now c.bring_equalities.new.laid c.bring_creations.new.laid
    c.bring_equalities.ensures.grows c.bring_creations.ensures.grows)
    c.bring_call.ensures.brings
    (entry_is c.args.system.now c.args.head.now c.args.caller.now c.in-Some.transition.now is)
