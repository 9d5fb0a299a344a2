use Rattle.std.proofs.Common.{◌≡◌, ◌+◌, ◌++◌, drop}
use Rattle.rn_table.specs.Changes.{new_from}
use Rattle.rn_table.specs.link.Leaves.{IsTable, instances_in, starting_from}
use Rattle.rn_table.specs.Tables.{started}
use Rattle.rn_table.proofs.pages.add_all.Given as goal

abbrev pub invariant-loop-net : goal.invariant-loop-net
invariant-loop-net l = record {
  number : l.number ≡ l.next + l.net-index;
  table : IsTable l.number l.leaves;
  instances : instances_in l.leaves ++ new_from l.system l.number (drop l.net-index l.made) ≡ instances_in l.initial.leaves ++ new_from l.system l.next l.made;
  starting : starting_from 0 l.leaves ++ started l.system l.number (drop l.net-index l.made) ≡ starting_from 0 l.initial.leaves ++ started l.system l.next l.made;
}
