use Rattle.std.proofs.Common.{◌≡◌, [], sym, ap, ◌∙◌, subst}
use Rattle.std.specs.Prelude.{Some, IfOk, slice_get}
use Rattle.rn_model.specs.Derivation.{arc}
use Rattle.rn_growing.specs.declared.decision.Decision.TheVariants as D
use Rattle.rn_growing.specs.link.Building.{part_at}
use Rattle.rn_growing.specs.Decisions.{transition_in}
use Rattle.rn_growing.specs.Equations.{Brings}
use Rattle.rn_growing.specs.link.Grown.{BringsIn}
use Rattle.rn_growing.specs.link.Laid.{Builds}
use Rattle.rn_growing.proofs.BringingSteps.{found_is, then_gets_answer}
use Rattle.rn_growing.proofs.bringing.bring_found.Goals as goal

pub returns-in-Some-2-clause-brings : goal.returns-in-Some-2-clause-brings
returns-in-Some-2-clause-brings c =
    let found = c.in-Some-get.found.now in
    let there : slice_get (transition_in c.args.system.now c.args.head.now).arcs c.args.arc ≡ Some
    found =
    ap (λ t. slice_get t.arcs c.args.arc) (sym c.in-Some.ensures)
    ∙ sym c.in-Some-get.ensures.value in
    let built : Builds c.args.laid.now
    (λ a. part_at a c.args.head.now (arc c.args.arc) [] found.inscription) c.build.new.laid
    c.in-Some-2.built =
    subst (λ w. Builds c.args.laid.now
    (λ a. part_at a c.args.head.now (arc c.args.arc) w found.inscription) c.build.new.laid
    c.in-Some-2.built) c.new-way.ensures.items
    (rw c.in-Some-2.is at c.in_ok-built.ensures.built) in
    subst (λ v. IfOk c.give.result
    (λ told. BringsIn c.args.laid.now
    (λ a. Brings c.args.system.now a (D.Found c.args.head.now c.args.arc v)) c.give.new.laid
    told)) c.in_ok-token.ensures
    (then_gets_answer c.give.result c.args.laid.now c.build.new.laid c.give.new.laid
    (λ a. part_at a c.args.head.now (arc c.args.arc) [] found.inscription) c.in-Some-2.built
    c.in_ok-token.token
    (λ a. Brings c.args.system.now a (D.Found c.args.head.now c.args.arc c.in_ok-token.token))
    built c.build.ensures.grows
    (found_is c.args.system.now c.args.head.now c.args.arc c.in_ok-token.token found there)
    c.give.ensures.gets)
