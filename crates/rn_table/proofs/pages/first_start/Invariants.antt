use Rattle.std.proofs.Common.{◌≡◌, drop}
use Rattle.std.specs.Prelude.{find, nat_le}
use Rattle.rn_table.specs.link.Leaves.{starting_from}
use Rattle.rn_table.proofs.CursorLemmas.{Begins}
use Rattle.rn_table.proofs.pages.first_start.Given as goal

abbrev pub invariant-loop-at : goal.invariant-loop-at
invariant-loop-at l = record {
  begins : Begins l.from l.at l.index;
  rest : find (nat_le l.from) (starting_from l.at (drop l.at l.leaves)) ≡ find (nat_le l.from) (starting_from 0 l.leaves);
}
