use Rattle.std.proofs.Common.{◌≤◌, [], length, arith, subst}
use Rattle.rn_unify.proofs.EarlierMarks.{grown}
use Rattle.rn_growing.specs.link.Building.{part_at}
use Rattle.rn_growing.specs.Decisions.{site_of}
use Rattle.rn_growing.specs.Equations.{read_at}
use Rattle.rn_growing.specs.link.Laid.{Builds, NeverHas}
use Rattle.rn_growing.proofs.BringingSteps.{no_second, two_terms_answer}
use Rattle.rn_growing.proofs.bringing.equate.Goals as goal

pub returns-in-None-2-clause-brings : goal.returns-in-None-2-clause-brings
returns-in-None-2-clause-brings c =
    let p : Builds c.args.laid.now
    (λ a. part_at a c.args.one.head.now (site_of c.args.one.site) [] c.args.one.expr.now)
    c.build.new.laid c.in-Some.p =
    subst (λ w. Builds c.args.laid.now
    (λ a. part_at a c.args.one.head.now (site_of c.args.one.site) w c.args.one.expr.now)
    c.build.new.laid c.in-Some.p) c.new-way.ensures.items
    (rw c.in-Some.is at c.in_ok-p.ensures.built) in
    let never : NeverHas c.build.new.laid
    (λ a. part_at a c.args.other.head.now (site_of c.args.other.site) [] c.args.other.expr.now)
    =
    subst (λ w. NeverHas c.build.new.laid
    (λ a. part_at a c.args.other.head.now (site_of c.args.other.site) w
    c.args.other.expr.now)) c.new-way-2.ensures.items
    (rw c.in-None-2.is at c.in_ok-q.ensures.built) in
    no_second c.args.laid.now c.build.new.laid c.build-2.new.laid
    (λ a. read_at a c.args.one.head.now (site_of c.args.one.site) c.args.one.expr.now)
    (λ a. read_at a c.args.other.head.now (site_of c.args.other.site) c.args.other.expr.now)
    c.in-Some.p p never

pub equal-requires-clause-p_within : goal.equal-requires-clause-p_within
equal-requires-clause-p_within c =
    let p : Builds c.args.laid.now
    (λ a. part_at a c.args.one.head.now (site_of c.args.one.site) [] c.args.one.expr.now)
    c.build.new.laid c.in-Some.p =
    subst (λ w. Builds c.args.laid.now
    (λ a. part_at a c.args.one.head.now (site_of c.args.one.site) w c.args.one.expr.now)
    c.build.new.laid c.in-Some.p) c.new-way.ensures.items
    (rw c.in-Some.is at c.in_ok-p.ensures.built) in
    let more : length c.build.new.laid.store.terms ≤ length c.build-2.new.laid.store.terms =
    (grown c.build.new.laid.store c.build-2.new.laid.store
    c.build-2.ensures.grows.store).not_later.0 in
    let within = p.within in
    omega (arith, more, within)

pub returns-clause-brings : goal.returns-clause-brings
returns-clause-brings c =
    let p : Builds c.args.laid.now
    (λ a. part_at a c.args.one.head.now (site_of c.args.one.site) [] c.args.one.expr.now)
    c.build.new.laid c.in-Some.p =
    subst (λ w. Builds c.args.laid.now
    (λ a. part_at a c.args.one.head.now (site_of c.args.one.site) w c.args.one.expr.now)
    c.build.new.laid c.in-Some.p) c.new-way.ensures.items
    (rw c.in-Some.is at c.in_ok-p.ensures.built) in
    let q : Builds c.build.new.laid
    (λ a. part_at a c.args.other.head.now (site_of c.args.other.site) [] c.args.other.expr.now)
    c.build-2.new.laid c.in-Some-2.q =
    subst (λ w. Builds c.build.new.laid
    (λ a. part_at a c.args.other.head.now (site_of c.args.other.site) w
    c.args.other.expr.now) c.build-2.new.laid c.in-Some-2.q) c.new-way-2.ensures.items
    (rw c.in-Some-2.is at c.in_ok-q.ensures.built) in
    two_terms_answer c.equal.result c.args.laid.now c.build.new.laid c.build-2.new.laid
    c.equal.new.self
    (λ a. read_at a c.args.one.head.now (site_of c.args.one.site) c.args.one.expr.now)
    (λ a. read_at a c.args.other.head.now (site_of c.args.other.site) c.args.other.expr.now)
    c.in-Some.p c.in-Some-2.q p c.build.ensures.grows q c.build-2.ensures.grows
    c.equal.ensures.equates
