use Rattle.std.proofs.Common.{arith}
use Rattle.rn_incr.proofs.SumLemmas.{part_within, sum_fits, sum_put}
use Rattle.rn_incr.proofs.putting.put_one.Goals as goal

pub overflow_sub-total : goal.overflow_sub-total
overflow_sub-total c =
    let count = c.len.ensures in
    let test = c.if-at-len.true in
    part_within c.args.lists.now.items c.args.one.number c.args.total.now
    c.len-then-at-len.result c.index.result.now (omega (arith, count, test)) c.requires
    c.index.ensures c.len-then-at-len.ensures

pub overflow_add-total : goal.overflow_add-total
overflow_add-total c =
    let count = c.len.ensures in
    let test = c.if-at-len.true in
    let few = c.len.type_inv in
    let small = c.len-then-at-len-2.type_inv in
    let fits =
    sum_fits c.args.lists.now.items c.args.one.number c.args.total.now c.len-then-at-len.result
    c.index.result.now (omega (arith, count, test)) c.requires c.index.ensures
    c.len-then-at-len.ensures c.len-then-at-len-2.result (omega (arith, count, few))
    (omega (arith, small)) in
    omega (arith, fits)

pub returns-then-at-len-clause-sum : goal.returns-then-at-len-clause-sum
returns-then-at-len-clause-sum c =
    let count = c.len.ensures in
    let test = c.if-at-len.true in
    let small = c.len-then-at-len-2.type_inv in
    sum_put c.args.lists.now.items c.args.one.number c.args.total.now c.len-then-at-len.result
    c.index.result.now (omega (arith, count, test)) c.requires c.index.ensures
    c.len-then-at-len.ensures c.args.one.list c.len-then-at-len-2.result
    c.len-then-at-len-2.ensures (omega (arith, small))
