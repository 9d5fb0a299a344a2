-- Index by index, the last first.
use Rattle.std.proofs.Common.{◌≡◌, ◌<◌, ◌+◌, ◌-◌, subst, sym, map, drop, length, arith, rules, []}
use Rattle.rn_binding.specs.link.Parts.{item_of, picked, AllWithin, HaveTheSame}
use Rattle.rn_binding.proofs.PickedParts.{none_picked, none_within, all_before, more_within}
use Rattle.rn_binding.proofs.derived.all_of.Goals as goal

pub loop-i-init : goal.loop-i-init
loop-i-init c =
    let none : c.in_ok-all.all.items ≡ [] = search rules in
    record {
      same = subst (λ xs. HaveTheSame (picked c.args.parts.now xs)
          (map item_of (drop (length c.args.parts.now) c.args.parts.now))) (sym none)
          (none_picked c.args.parts.now);
      within = subst (AllWithin c.args.parts.now) (sym none) (none_within c.args.parts.now);
      room = omega arith;
    }

pub loop-i-preserved : goal.loop-i-preserved
loop-i-preserved c =
    let room : c.loop-i.i - 1 < length c.args.parts.now =
    omega (arith, c.loop-i.invariant.room, c.loop-i-test.true) in
    let then : (c.loop-i.i - 1) + 1 ≡ c.loop-i.i = omega (arith, c.loop-i-test.true) in
    record {
      same = subst (λ xs. HaveTheSame (picked c.args.parts.now xs)
          (map item_of (drop (c.loop-i.i - 1) c.args.parts.now))) (sym c.in_ok-push.ensures.items)
          (all_before c.args.parts.now c.loop-i.all.items (c.loop-i.i - 1) c.loop-i.i then room
          c.loop-i.invariant.same);
      within = subst (AllWithin c.args.parts.now) (sym c.in_ok-push.ensures.items)
          (more_within c.args.parts.now c.loop-i.all.items (c.loop-i.i - 1)
          c.loop-i.invariant.within room);
      room = omega (arith, room);
    }

pub returns-clause-picks : goal.returns-clause-picks
returns-clause-picks c =
    let end : c.loop-i.i ≡ 0 = omega arith in
    subst (λ n. HaveTheSame (picked c.args.parts.now c.loop-i.all.items)
    (map item_of (drop n c.args.parts.now))) end c.loop-i.invariant.same
