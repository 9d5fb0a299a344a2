use Rattle.std.proofs.Common.{◌≢◌, take}
use Rattle.std.specs.Prelude.{All}
use Rattle.renew_rows.proofs.lines.parted.Given as goal

-- no such byte stands before
abbrev pub invariant-loop-i : goal.invariant-loop-i
invariant-loop-i l = All (λ c. c ≢ l.byte) (take l.i l.text)
