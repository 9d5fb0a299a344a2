use Rattle.std.proofs.Common.{◌≡◌, ◌<◌, ◌≤◌, ◌+◌, ◌-◌, ◌/◌, suc, take, ap, subst, arith}
use Rattle.std.specs.List.{AllByRecursion}
use Rattle.rn_model.specs.Markings.{Instance}
use Rattle.rn_table.proofs.InstanceLemmas.{halved_up, halved_down, read_value}
use Rattle.rn_table.proofs.page.Page.first_from.Goals as goal

pub loop-low-preserved-then-number : goal.loop-low-preserved-then-number
loop-low-preserved-then-number c =
    let low : c.index.result.now.value.number < c.args.number = omega (arith, c.if-number.true, c.number.ensures, ap (λ (i : Instance). i.number) c.deref.ensures) in
    let next : suc (c.loop-low.low + (c.loop-low.high - c.loop-low.low) / 2) ≡ (c.loop-low.low + (c.loop-low.high - c.loop-low.low) / 2) + 1 = omega arith in
    record {
      ordered = omega arith;
      inside = c.loop-low.invariant.inside;
      below = subst (λ n. AllByRecursion (λ i. i.number < c.args.number) (take n c.args.self.now)) next
          (halved_up c.args.number c.args.self.now (c.loop-low.low + (c.loop-low.high - c.loop-low.low) / 2) c.index.result.now.value c.requires (omega arith) (read_value (λ a. a.value) c.self.inside.instances.items c.args.self.now (c.loop-low.low + (c.loop-low.high - c.loop-low.low) / 2) c.index.result.now c.self.view_is (omega arith) c.index.ensures) low);
      rest = c.loop-low.invariant.rest;
    }

pub loop-low-preserved : goal.loop-low-preserved
loop-low-preserved c =
    let high : c.args.number ≤ c.index.result.now.value.number = omega (arith, c.if-number.false, c.number.ensures, ap (λ (i : Instance). i.number) c.deref.ensures) in
    record {
      ordered = omega arith;
      inside = omega arith;
      below = c.loop-low.invariant.below;
      rest = halved_down c.args.number c.args.self.now (c.loop-low.low + (c.loop-low.high - c.loop-low.low) / 2) c.index.result.now.value c.requires (omega arith) (read_value (λ a. a.value) c.self.inside.instances.items c.args.self.now (c.loop-low.low + (c.loop-low.high - c.loop-low.low) / 2) c.index.result.now c.self.view_is (omega arith) c.index.ensures) high;
    }
