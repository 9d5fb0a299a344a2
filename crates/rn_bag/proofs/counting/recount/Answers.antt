use Rattle.std.proofs.Common.{◌∙◌, arith}
use Rattle.rn_bag.proofs.CountLemmas.{recounted_to}
use Rattle.rn_bag.proofs.counting.recount.Goals as goal

pub overflow_add-total : goal.overflow_add-total
overflow_add-total c = omega (arith, c.loop-i.invariant.bound, c.count-total.ensures.bound)

pub loop-i-preserved : goal.loop-i-preserved
loop-i-preserved c =
    let next = recounted_to c.loop-i.chunks c.set_before.new.self c.loop-i.i c.loop-i.total c.count-total.result (omega arith) c.set_before.ensures.chunk c.count-total.ensures.count c.count-total.ensures.bound
    c.loop-i.invariant.counted c.loop-i.invariant.count c.loop-i.invariant.bound in
    record {
      counted = next.0;
      count = next.1;
      bound = next.2;
      tokens = next.3 ∙ c.loop-i.invariant.tokens;
      values = next.4 ∙ c.loop-i.invariant.values;
      size = next.5 ∙ c.loop-i.invariant.size;
    }
