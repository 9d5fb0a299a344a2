-- The entries so far, and what the lines that are left tell, are what all lines tell.
use Rattle.std.proofs.Common.{length}
use Rattle.rn_record_reader.specs.Lines.{lines_in}
use Rattle.rn_record_reader.proofs.RunLemmas.{IsSoFar}
use Rattle.rn_record_reader.proofs.record.read_lines.Given as goal

abbrev pub invariant-loop-entries : goal.invariant-loop-entries
invariant-loop-entries l =
    IsSoFar l.format l.system l.first (lines_in l.bytes) l.entries.items l.made.items l.step l.line
    (lines_in l.rest)

abbrev pub decreases-loop-entries : goal.decreases-loop-entries
decreases-loop-entries l = length (lines_in l.rest)
