use Rattle.std.proofs.Common.{ap, subst, sym, arith}
use Rattle.renew_rows.specs.Counting.{CountsNext}
use Rattle.renew_rows.specs.Lines.{headings, lines_of}
use Rattle.renew_rows.proofs.CountingLemmas.{begins, goes_on}
use Rattle.renew_rows.proofs.rows.judge_all.Goals as goal

pub loop-more-init : goal.loop-more-init
loop-more-init g c = record {
  judged = begins (headings (lines_of c.args.text.now)) (headings (lines_of c.of-lines.result.rest.now)) c.nothing-tally.result (ap (λ t. headings (lines_of t)) (sym c.of-lines.ensures)) c.nothing-tally.ensures.rows c.nothing-tally.ensures.differ;
  few = rw c.nothing-tally.ensures.rows (rw c.of-lines.ensures (omega arith));
}

pub loop-more-preserved : goal.loop-more-preserved
loop-more-preserved g c =
    let all = headings (lines_of c.args.text.now) in
    let rest = headings (lines_of c.loop-more.lines.rest.now) in
    let after = headings (lines_of c.judge_next.new.lines.rest.now) in
    let next = subst (λ counted. CountsNext rest after c.loop-more.tally counted) c.in-Some.is c.in_ok-more.ensures.next in
    let shorter = rw c.in-Some.is at c.in_ok-more.ensures.shorter in
    record {
      judged = goes_on all rest after c.loop-more.tally c.in-Some.more c.loop-more.invariant.judged next;
      few = omega (arith, shorter.0, shorter.1, c.loop-more.invariant.few);
    }
