use Rattle.std.proofs.Common.{◌≤◌, arith}
use Rattle.rn_incr.proofs.SumLemmas.{count_more}
use Rattle.rn_incr.proofs.counting.count_of.Goals as goal

pub loop-list-preserved : goal.loop-list-preserved
loop-list-preserved c =
    let small = c.len.type_inv in
    let fits : c.len.result ≤ 18446744073709551615 = omega (arith, small) in
    count_more c.args.lists.now c.loop-list.list-index c.loop-list.count c.len.result
    c.list-item.result c.loop-list-test.true c.list-item.is c.len.ensures fits c.loop-list.invariant
