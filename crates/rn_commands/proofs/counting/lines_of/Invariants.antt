-- What is written so far and the lines to come are all.
use Rattle.std.proofs.Common.{◌≡◌, ◌++◌, drop}
use Rattle.rn_commands.specs.Counting.{count_lines}
use Rattle.rn_commands.proofs.counting.lines_of.Given as goal

abbrev pub invariant-loop-i : goal.invariant-loop-i
invariant-loop-i l = l.text.items ++ count_lines l.i (drop l.i l.counts) ≡ count_lines 0 l.counts
