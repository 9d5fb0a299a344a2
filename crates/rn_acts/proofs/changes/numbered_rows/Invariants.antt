use Rattle.std.proofs.Common.{◌≡◌}
use Rattle.std.specs.List.{flat_map}
use Rattle.rn_acts.specs.link.ChangeRows.{numbered_row}
use Rattle.rn_acts.proofs.changes.numbered_rows.Given as goal

abbrev pub invariant-loop-row : goal.invariant-loop-row
invariant-loop-row l = l.rows ≡ flat_map numbered_row l.yielded
