-- What the firing comes to at this state.
use Rattle.std.proofs.Common.{ap, sym, subst, ◌∙◌, refl}
use Rattle.std.specs.Prelude.{All}
use Rattle.rn_model.specs.Bindings.{Shape}
use Rattle.rn_calc.specs.OwnKinds.{HaveOwnKinds}
use Rattle.rn_model.specs.declared.log.Reason.TheVariants.{Fault}
use Rattle.rn_fire.specs.Commits.{IsEnabledNow}
use Rattle.rn_fire.specs.Ends.{with_end}
use Rattle.rn_fire.specs.States.{end_marking}
use Rattle.rn_fire.proofs.OutcomeLemmas.{few_creations, outcome_now}
use Rattle.rn_fire.proofs.state.SimState.fire.Goals as goal

pub outcome_of-requires-clause-numbers : goal.outcome_of-requires-clause-numbers
outcome_of-requires-clause-numbers c =
    let s = c.args.self.now in
    few_creations c.system.result.now c.args.binding.now s.setup.options.depth c.next.result c.system.ensures.good
    (subst (λ x. Shape x c.args.binding.now s.setup.options.depth) (sym c.system.ensures.system) c.requires.enabled.shape)
    c.next.ensures.most

pub outcome_of-requires-clause-kinds : goal.outcome_of-requires-clause-kinds
outcome_of-requires-clause-kinds c =
    subst (λ x. All (HaveOwnKinds x) c.args.binding.now.nodes) (sym c.system.ensures.system)
    (λ k d h. (c.requires.enabled.agrees.nodes k d h).kinds)

pub end_by_fault-requires-clause-true_end : goal.end_by_fault-requires-clause-true_end
end_by_fault-requires-clause-true_end c =
    let s = c.args.self.now in
    let next = c.next.ensures.number ∙ ap (λ t. t.marking.next) c.table.ensures.table in
    let outcome = outcome_now s c.system.result.now c.args.binding.now c.in_ok-copied.copied c.next.result c.length-step.result c.in_ok-cause.field-0 _
    c.requires.going c.system.ensures.system next c.length-step.ensures.length c.in_ok-copied.ensures c.in-Undefined.is c.in_ok-cause.ensures in (
      subst (IsEnabledNow s) (sym c.in_ok-copied.ensures) c.requires.enabled,
      outcome (end_marking s) (sym c.table.ensures.stands.next ∙ ap (λ t. t.marking.next) c.table.ensures.table),
      c.requires.below,
    )

pub add-requires-clause-fires : goal.add-requires-clause-fires
add-requires-clause-fires c =
    let s = c.args.self.now in
    let next = c.next.ensures.number ∙ ap (λ t. t.marking.next) c.table.ensures.table in
    outcome_now s c.system.result.now c.args.binding.now c.in_ok-copied.copied c.next.result c.length-step.result c.in_ok-cause.field-0 _
    c.requires.going c.system.ensures.system next c.length-step.ensures.length c.in_ok-copied.ensures c.in-Defined.is c.in_ok-cause.ensures

pub returns-in_ok-end_by_fault-in-Undefined : goal.returns-in_ok-end_by_fault-in-Undefined
returns-in_ok-end_by_fault-in-Undefined c =
    let s = c.args.self.now in
    let next = c.next.ensures.number ∙ ap (λ t. t.marking.next) c.table.ensures.table in
    let outcome = outcome_now s c.system.result.now c.args.binding.now c.args.binding.now c.next.result c.length-step.result c.in_ok-cause.field-0 _
    c.requires.going c.system.ensures.system next c.length-step.ensures.length refl c.in-Undefined.is c.in_ok-cause.ensures in (
      c.in-Undefined.cause,
      outcome (end_marking s) (sym c.table.ensures.stands.next ∙ ap (λ t. t.marking.next) c.table.ensures.table),
      c.in_ok-end_by_fault-in-Undefined.ensures.ok ∙ ap (λ b. with_end (Fault c.in-Undefined.cause b) s) c.in_ok-copied.ensures,
    )
