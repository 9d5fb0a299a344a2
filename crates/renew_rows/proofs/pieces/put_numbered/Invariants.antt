use Rattle.std.proofs.Common.{◌≡◌, ◌++◌}
use Rattle.renew_rows.specs.Pieces.{numbered}
use Rattle.renew_rows.proofs.pieces.put_numbered.Given as goal

abbrev pub invariant-loop-i : goal.invariant-loop-i
invariant-loop-i l = l.into.items ≡ l.initial.into.items ++ numbered l.from l.text l.i
