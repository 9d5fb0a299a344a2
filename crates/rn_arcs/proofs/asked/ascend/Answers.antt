use Rattle.std.proofs.Common.{◌≡◌, arith}
use Rattle.rn_model.specs.Lists.{ordered_values}
use Rattle.rn_arcs.proofs.SortedLists.{short_is_ordered, sorted_is_ordered}
use Rattle.rn_arcs.proofs.asked.ascend.Goals as goal

pub returns-then-len-lt2 : goal.returns-then-len-lt2
returns-then-len-lt2 c = short_is_ordered c.args.values.now (omega arith)

pub returns : goal.returns
returns c =
    let sorted : c.sort.new.values.items ≡ ordered_values c.into_vec-sorted.result.items =
    sorted_is_ordered c.into_vec-sorted.result.items c.sort.new.values.items
    c.in_ok-sort.ensures.sorted c.in_ok-sort.ensures.same in
    cc
