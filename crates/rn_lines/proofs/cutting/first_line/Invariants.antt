use Rattle.std.proofs.Common.{◌≢◌, take}
use Rattle.std.specs.Prelude.{All}
use Rattle.rn_lines.proofs.cutting.first_line.Given as goal

-- no line feed stands before
abbrev pub invariant-loop-i : goal.invariant-loop-i
invariant-loop-i l = All (λ c. c ≢ 10) (take l.i l.bytes)
