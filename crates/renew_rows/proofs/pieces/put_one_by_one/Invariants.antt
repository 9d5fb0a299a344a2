use Rattle.std.proofs.Common.{◌≡◌, ◌++◌}
use Rattle.renew_rows.specs.Pieces.{bytes_times}
use Rattle.renew_rows.proofs.pieces.put_one_by_one.Given as goal

abbrev pub invariant-loop-i : goal.invariant-loop-i
invariant-loop-i l = l.into.items ≡ l.initial.into.items ++ bytes_times l._i l.bytes
