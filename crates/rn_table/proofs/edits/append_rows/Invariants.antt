use Rattle.std.proofs.Common.{◌≡◌, ◌++◌, take}
use Rattle.rn_table.specs.link.Steps.{steps_in}
use Rattle.rn_table.proofs.edits.append_rows.Given as goal

abbrev pub invariant-loop-row : goal.invariant-loop-row
invariant-loop-row l = l.edits.items ≡ l.initial.edits.items ++ steps_in l.puts (take l.row-index l.rows)
