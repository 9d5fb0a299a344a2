use Rattle.rn_net.proofs.Names.{◌≤◌, ◌-◌, length, drop, colon, declaring, Stage, AreNamesUpTo}
use Rattle.rn_net.proofs.Rows.{row_on}
use Rattle.rn_net.proofs.DeclarationPhrases.{name_row}
use Rattle.rn_net.proofs.declaration_reader.names_up_to.Given as goal

abbrev pub invariant-loop-next : goal.invariant-loop-next
invariant-loop-next l = record {
  moved : (l.fn.at ≤ l.now) × (l.now ≤ length l.tokens);
  reads : Stage AreNamesUpTo (drop l.fn.at l.tokens) (declaring 0) (row_on name_row colon l.all.items) (drop l.now l.tokens) (declaring 0);
}

abbrev pub decreases-loop-next : goal.decreases-loop-next
decreases-loop-next l = length l.tokens - l.now
