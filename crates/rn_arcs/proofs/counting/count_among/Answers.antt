use Rattle.std.proofs.Common.{◌≡◌, ◌+◌, arith, rules}
use Rattle.std.proofs.lemmas.List.Sorted.{IsPartitionPoint-from_clause}
use Rattle.rn_model.specs.Lists.{count_of}
use Rattle.rn_arcs.proofs.CountLemmas.{is_below, is_up_to, below_first, up_to_first}
use Rattle.rn_arcs.proofs.CountLemmas.{counted_between}
use Rattle.rn_arcs.proofs.counting.count_among.Goals as goal

between : (c : goal.After-partition_point-up_to) →
    count_of c.args.value.now c.args.values.now + c.partition_point-below.result
    ≡ c.partition_point-up_to.result
between c =
    let v = c.args.value.now in
    let xs = c.args.values.now in
    counted_between v xs c.partition_point-below.result c.partition_point-up_to.result
    c.partition_point-below.ensures.bound c.partition_point-up_to.ensures.bound
    (IsPartitionPoint-from_clause (is_below v) xs c.partition_point-below.result
    c.partition_point-below.ensures.partitioned (below_first v xs c.requires)
    (λ a r f k. search rules))
    (IsPartitionPoint-from_clause (is_up_to v) xs c.partition_point-up_to.result
    c.partition_point-up_to.ensures.partitioned (up_to_first v xs c.requires)
    (λ a r f k. search rules))

pub overflow_sub-result : goal.overflow_sub-result
overflow_sub-result c = omega (arith, between c)

pub returns : goal.returns
returns c = omega (arith, between c)
