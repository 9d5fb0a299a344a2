use Rattle.std.proofs.Common.{◌+◌, length, subst}
use Rattle.std.specs.List.{AllByRecursion}
use Rattle.rn_table.specs.link.Leaves.{Ascending, HasSortedPlaces}
use Rattle.rn_table.proofs.TableLemmas.{all_ascend, all_sorted}
use Rattle.rn_table.proofs.pages.change_all.Goals as goal

pub returns-clause-table : goal.returns-clause-table
returns-clause-table c = c.in_ok-edit_all.ensures.table (c.args.next + length c.args.made.now) c.in_ok-add_all.ensures.table

pub returns-clause-ascending : goal.returns-clause-ascending
returns-clause-ascending c = subst Ascending c.in_ok-add_all.ensures.instances (all_ascend 0 c.add_all.new.leaves c.in_ok-add_all.ensures.table.leaves)

pub returns-clause-sorted : goal.returns-clause-sorted
returns-clause-sorted c = subst (AllByRecursion HasSortedPlaces) c.in_ok-add_all.ensures.instances (all_sorted 0 c.add_all.new.leaves c.in_ok-add_all.ensures.table.leaves)
