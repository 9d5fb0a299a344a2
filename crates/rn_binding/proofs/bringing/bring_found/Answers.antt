-- By the node's entry, and the value under the node.
use Rattle.std.proofs.Common.{◌∙◌, ap, sym, subst, true, false}
use Rattle.std.proofs.lemmas.Result.{IfOk-weaker}
use Rattle.rn_model.specs.Evaluation.{worth}
use Rattle.rn_model.specs.Bindings.{env_of}
use Rattle.rn_model.specs.Derivation.{found}
use Rattle.rn_model.specs.ExpressionLaws.{OperandsAreFit}
use Rattle.rn_growing.specs.declared.decision.Decision.TheVariants.{Found}
use Rattle.rn_growing.specs.Decided.{enters, finds}
use Rattle.rn_binding.proofs.Coming.{Comes}
use Rattle.rn_binding.proofs.ComingValues.{tested, found_already, found_early, found_has_value}
use Rattle.rn_binding.proofs.ComingValues.{found_comes}
use Rattle.rn_binding.proofs.FitOperands.{found_fits}
use Rattle.rn_binding.proofs.bringing.bring_found.Goals as goal
use Rattle.rn_binding.proofs.bringing.bring_found.Goals.{In_ok-head}

-- the value that was found comes
comes : (c : In_ok-head) →
    Comes c.args.subject.system.now c.args.subject.binding.now c.args.growing.now
    (Found c.in_ok-head.head c.args.k c.in-Some.value) (found c.args.headed.now c.args.k c.args.arc.now)
comes c =
    found_comes c.args.subject.system.now c.args.subject.binding.now c.requires.given c.args.growing.now
    c.requires.followed c.args.headed.now c.args.k c.args.arc.now c.requires.item
    c.in_ok-head.head c.in-Some.value (c.in_ok-head.ensures ∙ c.head.ensures)
    (ap (worth c.args.arc.now.inscription) (sym (c.new-values.ensures ∙ ap (env_of c.args.subject.system.now) c.node-node.ensures)) ∙ sym c.in_ok-value.ensures.value
    ∙ c.in-Some.is)
    (tested (λ p. finds p c.args.k) c.was_found.result false
    c.args.growing.now.decisions c.as_slice-path.result.now c.args.headed.now.path
    c.was_found.ensures (c.as_slice-path.ensures ∙ ap (λ n. n.path) c.node-node.ensures) c.if-was_found.false)
    (tested (enters) c.was_entered.result true
    c.args.growing.now.decisions c.as_slice-path.result.now c.args.headed.now.path
    c.was_entered.ensures (c.as_slice-path.ensures ∙ ap (λ n. n.path) c.node-node.ensures) c.if-not-was_entered.false)

pub returns-then-was_found-clause-brings : goal.returns-then-was_found-clause-brings
returns-then-was_found-clause-brings c =
    found_already c.args.subject.system.now c.args.subject.binding.now c.requires.given c.args.growing.now
    c.requires.followed c.args.headed.now c.args.k c.args.arc.now c.requires.item
    (tested (λ p. finds p c.args.k) c.was_found.result true
    c.args.growing.now.decisions c.as_slice-path.result.now c.args.headed.now.path
    c.was_found.ensures (c.as_slice-path.ensures ∙ ap (λ n. n.path) c.node-node.ensures) c.if-was_found.true)

pub returns-then-not-was_entered-clause-brings : goal.returns-then-not-was_entered-clause-brings
returns-then-not-was_entered-clause-brings c =
    found_early c.args.subject.system.now c.args.subject.binding.now c.requires.given c.args.growing.now
    c.requires.followed c.args.headed.now c.args.k c.args.arc.now c.requires.item
    (tested (λ p. finds p c.args.k) c.was_found.result false
    c.args.growing.now.decisions c.as_slice-path.result.now c.args.headed.now.path
    c.was_found.ensures (c.as_slice-path.ensures ∙ ap (λ n. n.path) c.node-node.ensures) c.if-was_found.false)
    (tested (enters) c.was_entered.result false
    c.args.growing.now.decisions c.as_slice-path.result.now c.args.headed.now.path
    c.was_entered.ensures (c.as_slice-path.ensures ∙ ap (λ n. n.path) c.node-node.ensures) c.if-not-was_entered.true)

pub returns-in_default-clause-brings : goal.returns-in_default-clause-brings
returns-in_default-clause-brings c =
    absurd (found_has_value c.args.subject.system.now c.args.subject.binding.now c.requires.given c.args.growing.now
    c.requires.followed c.args.headed.now c.args.k c.args.arc.now c.requires.item
    (ap (worth c.args.arc.now.inscription) (sym (c.new-values.ensures ∙ ap (env_of c.args.subject.system.now) c.node-node.ensures)) ∙ sym c.in_ok-value.ensures.value
    ∙ c.in_default.is))

pub find-requires-clause-may_come : goal.find-requires-clause-may_come
find-requires-clause-may_come c = (comes (goal.at.find-requires-clause-may_come c).In_ok-head).0

pub find-requires-clause-fresh : goal.find-requires-clause-fresh
find-requires-clause-fresh c = (comes (goal.at.find-requires-clause-fresh c).In_ok-head).1

pub returns-clause-brings : goal.returns-clause-brings
returns-clause-brings c =
    IfOk-weaker _ _ _ (λ yes tries. ((comes (goal.at.returns-clause-brings c).In_ok-head).2 c.find.new.self yes tries).0)
    c.find.ensures.tries

pub returns-clause-followed : goal.returns-clause-followed
returns-clause-followed c =
    IfOk-weaker _ _ _ (λ yes tries. ((comes (goal.at.returns-clause-followed c).In_ok-head).2 c.find.new.self yes tries).1)
    c.find.ensures.tries

pub evaluate-requires-clause-fit : goal.evaluate-requires-clause-fit
evaluate-requires-clause-fit c =
    subst (λ env. OperandsAreFit env c.args.arc.now.inscription)
    (sym (c.new-values.ensures ∙ ap (env_of c.args.subject.system.now) c.node-node.ensures))
    (found_fits c.args.subject.system.now c.args.subject.binding.now c.requires.given
    c.args.headed.now c.args.k c.args.arc.now c.requires.item)
