-- The marks so far, and those of the lines that are left, are all.
use Rattle.std.proofs.Common.{◌≡◌, ◌≤◌, length}
use Rattle.rn_record_reader.specs.Lines.{lines_in}
use Rattle.rn_record_reader.specs.Marks.{most_told_values, marks_from}
use Rattle.rn_record_reader.specs.link.MarksAhead.{with_lines}
use Rattle.rn_record_reader.proofs.marks.read_marks.Given as goal

abbrev pub invariant-loop-marks : goal.invariant-loop-marks
invariant-loop-marks l = record {
  all : with_lines l.marks.items (marks_from l.by.reader.format l.by.reader.system.now l.by.made.now l.held (lines_in l.rest))
      ≡ marks_from l.by.reader.format l.by.reader.system.now l.by.made.now 0 (lines_in l.bytes);
  few : l.held ≤ most_told_values;
}

abbrev pub decreases-loop-marks : goal.decreases-loop-marks
decreases-loop-marks l = length l.rest
