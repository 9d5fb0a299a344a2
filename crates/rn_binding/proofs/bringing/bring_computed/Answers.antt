-- By the node's entry, the variables, and the value under the node.
use Rattle.std.proofs.Common.{◌≡◌, ◌∙◌, ap, sym, subst, rules, true, false}
use Rattle.std.proofs.lemmas.Result.{IfOk-weaker}
use Rattle.rn_model.specs.Evaluation.{worth}
use Rattle.rn_model.specs.Bindings.{env_of}
use Rattle.rn_model.specs.ExpressionLaws.{OperandsAreFit}
use Rattle.std.specs.Prelude.{All}
use Rattle.rn_model.specs.Systems.{vars_in}
use Rattle.rn_growing.specs.declared.decision.Decision.TheVariants.{Computed}
use Rattle.rn_growing.specs.Decided.{enters, computes}
use Rattle.rn_growing.specs.Decisions.{site_of}
use Rattle.rn_binding.specs.link.Parts.{computed_by}
use Rattle.rn_binding.specs.link.Passing.{IsVarForcedOn}
use Rattle.rn_binding.proofs.Coming.{Comes}
use Rattle.rn_binding.proofs.ComingValues.{tested, tested_along, computed_already, computed_early}
use Rattle.rn_binding.proofs.ComingValues.{computed_unforced}
use Rattle.rn_binding.proofs.ComingValues.{computed_has_value, computed_comes}
use Rattle.rn_binding.proofs.FitOperands.{computed_fits}
use Rattle.rn_binding.proofs.bringing.bring_computed.Goals as goal
use Rattle.rn_binding.proofs.bringing.bring_computed.Goals.{After-from_vec-way}

-- the value that was computed comes
comes : (c : After-from_vec-way) →
    Comes c.args.subject.system.now c.args.subject.binding.now c.args.growing.now
    (Computed c.in_ok-head.head c.args.application.now.site c.from_vec-way.result c.in-Some.value)
    (computed_by c.args.headed.now c.args.application.now)
comes c =
    let way : c.from_vec-way.result ≡ c.args.application.now.way = search rules in
    computed_comes c.args.subject.system.now c.args.subject.binding.now c.requires.given c.args.growing.now
    c.requires.followed c.args.headed.now c.args.application.now.site
    (record { way = c.args.application.now.way; form = c.args.application.now.form.now }) c.requires.item
    c.in_ok-head.head c.from_vec-way.result c.in-Some.value (c.in_ok-head.ensures ∙ c.head.ensures) way
    (ap (worth c.args.application.now.form.now) (sym (c.new-values.ensures ∙ ap (env_of c.args.subject.system.now) c.node-node.ensures)) ∙ sym c.in_ok-value.ensures.value
    ∙ c.in-Some.is)
    (tested_along (λ p way. computes p c.args.application.now.site way) c.was_computed.result false
    c.args.growing.now.decisions c.as_slice-path.result.now c.args.headed.now.path
    c.as_slice-way.result.now c.args.application.now.way c.was_computed.ensures
    (c.as_slice-path.ensures ∙ ap (λ n. n.path) c.node-node.ensures) c.as_slice-way.ensures c.if-was_computed.false)
    (tested (enters) c.was_entered.result true
    c.args.growing.now.decisions c.as_slice-path.result.now c.args.headed.now.path
    c.was_entered.ensures (c.as_slice-path.ensures ∙ ap (λ n. n.path) c.node-node.ensures) c.if-not-was_entered.false)
    (subst (λ p. All (IsVarForcedOn c.args.growing.now p) (vars_in c.args.application.now.form.now)) (c.as_slice-path.ensures ∙ ap (λ n. n.path) c.node-node.ensures)
    (c.in_ok-is_expr_forced.ensures.0 c.if-not-branch.false))

pub returns-then-was_computed-clause-brings : goal.returns-then-was_computed-clause-brings
returns-then-was_computed-clause-brings c =
    computed_already c.args.subject.system.now c.args.subject.binding.now c.requires.given c.args.growing.now
    c.requires.followed c.args.headed.now c.args.application.now.site
    (record { way = c.args.application.now.way; form = c.args.application.now.form.now }) c.requires.item
    (tested_along (λ p way. computes p c.args.application.now.site way) c.was_computed.result true
    c.args.growing.now.decisions c.as_slice-path.result.now c.args.headed.now.path
    c.as_slice-way.result.now c.args.application.now.way c.was_computed.ensures
    (c.as_slice-path.ensures ∙ ap (λ n. n.path) c.node-node.ensures) c.as_slice-way.ensures c.if-was_computed.true)

pub returns-then-not-was_entered-clause-brings : goal.returns-then-not-was_entered-clause-brings
returns-then-not-was_entered-clause-brings c =
    computed_early c.args.subject.system.now c.args.subject.binding.now c.requires.given c.args.growing.now
    c.requires.followed c.args.headed.now c.args.application.now.site
    (record { way = c.args.application.now.way; form = c.args.application.now.form.now }) c.requires.item
    (tested_along (λ p way. computes p c.args.application.now.site way) c.was_computed.result false
    c.args.growing.now.decisions c.as_slice-path.result.now c.args.headed.now.path
    c.as_slice-way.result.now c.args.application.now.way c.was_computed.ensures
    (c.as_slice-path.ensures ∙ ap (λ n. n.path) c.node-node.ensures) c.as_slice-way.ensures c.if-was_computed.false)
    (tested (enters) c.was_entered.result false
    c.args.growing.now.decisions c.as_slice-path.result.now c.args.headed.now.path
    c.was_entered.ensures (c.as_slice-path.ensures ∙ ap (λ n. n.path) c.node-node.ensures) c.if-not-was_entered.true)

pub returns-then-not-branch-clause-brings : goal.returns-then-not-branch-clause-brings
returns-then-not-branch-clause-brings c =
    computed_unforced c.args.subject.system.now c.args.subject.binding.now c.requires.given c.args.growing.now
    c.requires.followed c.args.headed.now c.args.application.now.site
    (record { way = c.args.application.now.way; form = c.args.application.now.form.now }) c.requires.item
    (tested_along (λ p way. computes p c.args.application.now.site way) c.was_computed.result false
    c.args.growing.now.decisions c.as_slice-path.result.now c.args.headed.now.path
    c.as_slice-way.result.now c.args.application.now.way c.was_computed.ensures
    (c.as_slice-path.ensures ∙ ap (λ n. n.path) c.node-node.ensures) c.as_slice-way.ensures c.if-was_computed.false)
    (λ all. let yes = c.in_ok-is_expr_forced.ensures.1
    (subst (λ p. All (IsVarForcedOn c.args.growing.now p) (vars_in c.args.application.now.form.now)) (sym (c.as_slice-path.ensures ∙ ap (λ n. n.path) c.node-node.ensures)) all) in
    let no : ⊥ = cc in no)

pub returns-in_default-clause-brings : goal.returns-in_default-clause-brings
returns-in_default-clause-brings c =
    absurd (computed_has_value c.args.subject.system.now c.args.subject.binding.now c.requires.given c.args.growing.now
    c.requires.followed c.args.headed.now c.args.application.now.site
    (record { way = c.args.application.now.way; form = c.args.application.now.form.now }) c.requires.item
    (ap (worth c.args.application.now.form.now) (sym (c.new-values.ensures ∙ ap (env_of c.args.subject.system.now) c.node-node.ensures)) ∙ sym c.in_ok-value.ensures.value
    ∙ c.in_default.is))

pub compute-requires-clause-may_come : goal.compute-requires-clause-may_come
compute-requires-clause-may_come c = (comes (goal.at.compute-requires-clause-may_come c).After-from_vec-way).0

pub compute-requires-clause-fresh : goal.compute-requires-clause-fresh
compute-requires-clause-fresh c = (comes (goal.at.compute-requires-clause-fresh c).After-from_vec-way).1

pub returns-clause-brings : goal.returns-clause-brings
returns-clause-brings c =
    IfOk-weaker _ _ _ (λ yes tries. ((comes (goal.at.returns-clause-brings c).After-from_vec-way).2 c.compute.new.self yes tries).0)
    c.compute.ensures.tries

pub returns-clause-followed : goal.returns-clause-followed
returns-clause-followed c =
    IfOk-weaker _ _ _ (λ yes tries. ((comes (goal.at.returns-clause-followed c).After-from_vec-way).2 c.compute.new.self yes tries).1)
    c.compute.ensures.tries

pub evaluate-requires-clause-fit : goal.evaluate-requires-clause-fit
evaluate-requires-clause-fit c =
    let a = c.args.application.now in
    subst (λ env. OperandsAreFit env a.form.now)
    (sym (c.new-values.ensures ∙ ap (env_of c.args.subject.system.now) c.node-node.ensures))
    (computed_fits c.args.subject.system.now c.args.subject.binding.now c.requires.given
    c.args.headed.now (site_of a.site) (record { way = a.way; form = a.form.now })
    c.requires.item)
