use Rattle.std.proofs.Common.{arith}
use Rattle.rn_parted.proofs.AvoidLemmas.{all_avoid, avoids_more}
use Rattle.rn_parted.proofs.touching.+touch.Goals as goal

pub one_touches-loop-value-preserved : goal.one_touches-loop-value-preserved
one_touches-loop-value-preserved t c =
    avoids_more c.args.found.now.keys c.args.but c.args.values.now c.loop-value.value-index
    c.value-item.result c.loop-value-test.true c.value-item.is c.loop-value.invariant
    (c.touches.ensures c.if-touches.false)

pub one_touches-returns : goal.one_touches-returns
one_touches-returns t c =
    λ _. all_avoid c.args.found.now.keys c.args.but c.args.values.now c.loop-value.value-index
    (omega (arith, c.loop-value-test.false)) c.loop-value.invariant
