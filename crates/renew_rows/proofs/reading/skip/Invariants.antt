use Rattle.std.proofs.Common.{◌≡◌, ◌≤◌, length}
use Rattle.renew_rows.specs.Lines.{headings, lines_of}
use Rattle.renew_rows.proofs.reading.skip.Given as goal

-- the lines taken begin no row
abbrev pub invariant-loop-line : goal.invariant-loop-line
invariant-loop-line l = record {
  headings : headings (lines_of l.lines.rest.now) ≡ headings (lines_of l.initial.lines.rest.now);
  shorter : length l.lines.rest.now ≤ length l.initial.lines.rest.now;
}

abbrev pub decreases-loop-line : goal.decreases-loop-line
decreases-loop-line l = length l.lines.rest.now
