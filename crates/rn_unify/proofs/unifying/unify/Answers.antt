use Rattle.std.proofs.Common.{◌≡◌, length, rules, subst}
use Rattle.std.specs.Prelude.{List, true}
use Rattle.rn_value.specs.declared.value.Value.{Value}
use Rattle.rn_term.specs.Assignments.{Satisfies}
use Rattle.rn_unify.specs.link.Equations.{AreEachOne, Finds}
use Rattle.rn_unify.proofs.UnifyingRounds.{first_round, never_one, never_solved, next_round}
use Rattle.rn_unify.proofs.UnifyingRounds.{bound_reordered, says_always, none_left, may_be_one, always_one}
use Rattle.rn_unify.proofs.unifying.unify.Goals as goal
use Rattle.rn_unify.proofs.unifying.unify.Goals.{In_ok-compare_all}

-- what was found of the pairs that are left
answer : (c : In_ok-compare_all) →
    Finds c.loop-alloc.store (AreEachOne c.loop-alloc.pairs.items) c.new-found.result.items
    c.compare_all.new.found.items c.in_ok-compare_all.field-0
answer c =
    subst (λ pairs. Finds c.loop-alloc.store (AreEachOne pairs) c.new-found.result.items
    c.compare_all.new.found.items c.in_ok-compare_all.field-0) c.as_slice.ensures.value
    c.in_ok-compare_all.ensures.found

pub loop-alloc-init : goal.loop-alloc-init
loop-alloc-init c =
    first_round c.args.store.now c.solve.new.store c.args.a c.args.b c.new-pairs.result.items
    c.solve.new.later.items c.new-pairs.ensures.items c.in_ok-solve.ensures.kept
    (rw c.if-not-branch.false at c.in_ok-solve.ensures.solved)

pub returns-then-not-branch-2-clause-exact : goal.returns-then-not-branch-2-clause-exact
returns-then-not-branch-2-clause-exact c =
    never_one c.args.store.now c.loop-alloc.store c.args.a c.args.b c.loop-alloc.pairs.items
    c.loop-alloc.invariant
    (rw c.if-not-branch-2.true
    at (answer (goal.at.returns-then-not-branch-2-clause-exact c).In_ok-compare_all))

-- nothing was found, so each assignment makes each pair one
all_one : (c : In_ok-compare_all) → c.in_ok-compare_all.field-0 ≡ true →
    length c.compare_all.new.found.items ≡ 0 → (vs : List Value) →
    Satisfies c.loop-alloc.store vs → AreEachOne c.loop-alloc.pairs.items vs
all_one c found none =
    always_one c.args.store.now c.loop-alloc.store c.args.a c.args.b c.loop-alloc.pairs.items
    c.loop-alloc.invariant c.new-found.result.items c.compare_all.new.found.items
    (subst (Finds c.loop-alloc.store (AreEachOne c.loop-alloc.pairs.items)
    c.new-found.result.items c.compare_all.new.found.items) found (answer c))
    c.new-found.ensures.items none

pub returns-then-is_empty-clause-exact : goal.returns-then-is_empty-clause-exact
returns-then-is_empty-clause-exact c =
    let none : length c.compare_all.new.found.items ≡ 0 = search rules in
    may_be_one c.args.store.now c.loop-alloc.store c.args.a c.args.b c.loop-alloc.pairs.items
    c.loop-alloc.invariant
    (all_one (goal.at.returns-then-is_empty-clause-exact c).In_ok-compare_all
    c.if-not-branch-2.false none)

pub returns-then-is_empty-clause-means : goal.returns-then-is_empty-clause-means
returns-then-is_empty-clause-means c _ =
    let none : length c.compare_all.new.found.items ≡ 0 = search rules in
    says_always c.args.store.now c.loop-alloc.store c.args.a c.args.b c.loop-alloc.pairs.items
    c.loop-alloc.invariant
    (all_one (goal.at.returns-then-is_empty-clause-means c).In_ok-compare_all
    c.if-not-branch-2.false none)

pub loop-alloc-preserved : goal.loop-alloc-preserved
loop-alloc-preserved c =
    let bound = bound_reordered c.loop-alloc.store c.bind_all.new.store
    c.compare_all.new.found.items c.in_order.result.items c.in-Some.later.items
    c.in_order.ensures.same c.in_order.ensures.each
    (rw c.in-Some.is at c.in_ok-later.ensures.bound) in
    next_round c.args.store.now c.loop-alloc.store c.args.a c.args.b c.loop-alloc.pairs.items
    c.loop-alloc.invariant c.new-found.result.items c.compare_all.new.found.items
    (rw c.if-not-branch-2.false at (answer (goal.at.loop-alloc-preserved c).In_ok-compare_all))
    c.new-found.ensures.items c.bind_all.new.store c.in-Some.later.items bound
    c.in_ok-later.ensures.earlier

pub returns-in-None-clause-exact : goal.returns-in-None-clause-exact
returns-in-None-clause-exact c =
    let never = rw c.in-None.is at c.in_ok-later.ensures.bound in
    never_solved c.args.store.now c.loop-alloc.store c.args.a c.args.b c.loop-alloc.pairs.items
    c.loop-alloc.invariant c.new-found.result.items c.compare_all.new.found.items
    (rw c.if-not-branch-2.false
    at (answer (goal.at.returns-in-None-clause-exact c).In_ok-compare_all))
    c.new-found.ensures.items
    (λ vs sat solves. never vs sat ((c.in_order.ensures.same vs).0 solves))

pub returns-clause-exact : goal.returns-clause-exact
returns-clause-exact c =
    let none : length c.loop-alloc.pairs.items ≡ 0 = search rules in
    may_be_one c.args.store.now c.loop-alloc.store c.args.a c.args.b c.loop-alloc.pairs.items
    c.loop-alloc.invariant
    (none_left c.args.store.now c.loop-alloc.store c.args.a c.args.b c.loop-alloc.pairs.items
    c.loop-alloc.invariant none)

pub returns-clause-means : goal.returns-clause-means
returns-clause-means c _ =
    let none : length c.loop-alloc.pairs.items ≡ 0 = search rules in
    says_always c.args.store.now c.loop-alloc.store c.args.a c.args.b c.loop-alloc.pairs.items
    c.loop-alloc.invariant
    (none_left c.args.store.now c.loop-alloc.store c.args.a c.args.b c.loop-alloc.pairs.items
    c.loop-alloc.invariant none)
