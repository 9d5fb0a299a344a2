use Rattle.std.proofs.Common.{subst}
use Rattle.std.specs.List.Sorted.{IsSorted}
use Rattle.rn_value.specs.Order.{value_cmp}
use Rattle.rn_bag.specs.link.Chunks.{tokens_in}
use Rattle.rn_bag.proofs.AscendingLemmas.{sorted_of}
use Rattle.rn_bag.proofs.BagLemmas.{tokens_ascend}
use Rattle.rn_bag.proofs.bag.Bag.len.Goals as goal

pub returns-clause-sorted : goal.returns-clause-sorted
returns-clause-sorted c = subst (IsSorted value_cmp) c.self.view_is (sorted_of (tokens_in c.self.inside.chunks) (tokens_ascend c.self.inside.chunks c.self.invariant.ascend))
