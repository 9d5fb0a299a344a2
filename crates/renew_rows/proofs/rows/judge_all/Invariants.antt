use Rattle.std.proofs.Common.{◌≤◌, ◌+◌, length}
use Rattle.renew_rows.specs.Lines.{headings, lines_of}
use Rattle.renew_rows.proofs.CountingLemmas.{JudgedUpTo}
use Rattle.renew_rows.proofs.rows.judge_all.Given as goal

-- the rows that begin in the lines taken are judged and counted
abbrev pub invariant-loop-more : goal.invariant-loop-more
invariant-loop-more g l = record {
  judged : JudgedUpTo (headings (lines_of l.text)) (headings (lines_of l.lines.rest.now)) l.tally;
  few : l.tally.rows + length l.lines.rest.now ≤ length l.text;
}

abbrev pub decreases-loop-more : goal.decreases-loop-more
decreases-loop-more g l = length l.lines.rest.now
