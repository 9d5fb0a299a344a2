use Rattle.rn_value.proofs.SortedLists.{values_one_way, values_by_counts}
use Rattle.rn_value.proofs.laws.sorting_laws.Goals as goal

pub returns : goal.returns
returns c = record { one_way = values_one_way; by_counts = values_by_counts }
