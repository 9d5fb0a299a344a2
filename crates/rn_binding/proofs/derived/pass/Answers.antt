-- Item by item, the last first: what is brought in, or left.
use Rattle.std.proofs.Common.{◌≡◌, ◌<◌, ◌≤◌, ◌+◌, ◌-◌, refl, subst, get_or, drop}
use Rattle.std.proofs.Common.{length, arith}
use Rattle.rn_binding.specs.link.Parts.{item_of, picked}
use Rattle.rn_binding.specs.link.Passing.{IsPassed}
use Rattle.rn_binding.proofs.PassSteps.{is_in, is_left}
use Rattle.rn_binding.proofs.PickedParts.{picked_there}
use Rattle.rn_binding.proofs.derived.pass.Goals as goal

pub bring-requires-clause-item : goal.bring-requires-clause-item
bring-requires-clause-item c =
    let room : c.loop-k.k - 1 < length c.args.pending.now =
    omega (arith, c.loop-k.invariant.room, c.loop-k-test.true) in
    c.requires.items (item_of c.index-parts-i.result)
    (picked_there c.args.parts.now c.args.pending.now (c.loop-k.k - 1)
    (get_or c.args.pending.now (c.loop-k.k - 1) 0) c.index-parts-i.result room refl
    (c.requires.within (c.loop-k.k - 1) 0 room) c.index-parts-i.is)

pub loop-k-preserved-in_ok-push : goal.loop-k-preserved-in_ok-push
loop-k-preserved-in_ok-push c =
    let room : c.loop-k.k - 1 < length c.args.pending.now =
    omega (arith, c.loop-k.invariant.room, c.loop-k-test.true) in
    let then : (c.loop-k.k - 1) + 1 ≡ c.loop-k.k = omega (arith, c.loop-k-test.true) in
    let few : c.loop-k.k - 1 ≤ length c.args.pending.now = omega (arith, room) in
    let both = is_left c.args.subject.system.now c.args.subject.binding.now c.args.parts.now
    c.args.pending.now (c.loop-k.k - 1) c.loop-k.k (get_or c.args.pending.now (c.loop-k.k - 1) 0)
    c.index-parts-i.result then room refl (c.requires.within (c.loop-k.k - 1) 0 room)
    c.index-parts-i.is c.args.growing.now c.loop-k.growing c.bring.new.growing
    c.loop-k.left.items c.in_ok-bring.field-0 c.loop-k.invariant.passed
    c.in_ok-bring.ensures.followed c.in_ok-bring.ensures.brings c.loop-k.invariant.within
    c.if-not-branch.true c.push.new.self.items c.in_ok-push.ensures.items in
    record { passed = both.0; within = both.1; room = few }

pub loop-k-preserved : goal.loop-k-preserved
loop-k-preserved c =
    let room : c.loop-k.k - 1 < length c.args.pending.now =
    omega (arith, c.loop-k.invariant.room, c.loop-k-test.true) in
    let then : (c.loop-k.k - 1) + 1 ≡ c.loop-k.k = omega (arith, c.loop-k-test.true) in
    let few : c.loop-k.k - 1 ≤ length c.args.pending.now = omega (arith, room) in
    let both = is_in c.args.subject.system.now c.args.subject.binding.now c.args.parts.now
    c.args.pending.now (c.loop-k.k - 1) c.loop-k.k (get_or c.args.pending.now (c.loop-k.k - 1) 0)
    c.index-parts-i.result then room refl (c.requires.within (c.loop-k.k - 1) 0 room)
    c.index-parts-i.is c.args.growing.now c.loop-k.growing c.bring.new.growing
    c.loop-k.left.items c.in_ok-bring.field-0 c.loop-k.invariant.passed
    c.in_ok-bring.ensures.followed c.in_ok-bring.ensures.brings c.loop-k.invariant.within
    c.if-not-branch.false in
    record { passed = both.0; within = both.1; room = few }

pub returns-clause-passed : goal.returns-clause-passed
returns-clause-passed c =
    let end : c.loop-k.k ≡ 0 = omega arith in
    subst (λ n. IsPassed c.args.subject.system.now c.args.subject.binding.now c.args.growing.now
    (picked c.args.parts.now (drop n c.args.pending.now)) c.loop-k.growing
    (picked c.args.parts.now c.loop-k.left.items)) end c.loop-k.invariant.passed
