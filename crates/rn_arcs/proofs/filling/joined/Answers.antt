use Rattle.std.proofs.Common.{length}
use Rattle.std.specs.List.{sum_by}
use Rattle.rn_arcs.proofs.FillLemmas.{fills_next, sum_next, sum_fits}
use Rattle.rn_arcs.proofs.filling.joined.Goals as goal

pub put_pour-requires : goal.put_pour-requires
put_pour-requires c =
    sum_fits (sum_by (λ f. f.count) c.loop-pour.fills.items) c.loop-pour.pour-index
    (length c.args.pours.now) c.pour-item.result.count c.loop-pour.invariant.1
    c.loop-pour-test.true
    c.widened-many.ensures.bound c.widened-count.ensures.bound

pub loop-pour-preserved : goal.loop-pour-preserved
loop-pour-preserved c = (
  fills_next c.args.pours.now c.loop-pour.pour-index c.pour-item.result c.loop-pour.fills.items
      c.put_pour.new.fills.items c.loop-pour-test.true c.pour-item.is c.loop-pour.invariant.0
      c.in_ok-put_pour.ensures,
  sum_next c.loop-pour.fills.items c.put_pour.new.fills.items c.pour-item.result
      c.loop-pour.pour-index c.in_ok-put_pour.ensures c.loop-pour.invariant.1
      c.widened-count.ensures.bound,
)
