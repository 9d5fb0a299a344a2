use Rattle.renew_rows.proofs.CountingLemmas.{counts_next}
use Rattle.renew_rows.specs.Lines.{headings, lines_of}
use Rattle.renew_rows.proofs.rows.judge_next.Goals as goal

pub returns-clause-next : goal.returns-clause-next
returns-clause-next g c =
    counts_next (headings (lines_of c.args.lines.now.rest.now)) (headings (lines_of c.read_row.new.lines.rest.now)) c.args.tally c.count.result c.in-Ok-Some.row c.in_ok-judged.judged c.is_wrong-wrong.result (rw c.in-Ok-Some.field-0-is at c.in-Ok-Some.ensures.next) c.in_ok-judged.ensures c.is_wrong-wrong.ensures c.count.ensures.rows c.count.ensures.differ
