-- The patterns of both, one by one.
use Rattle.std.proofs.Common.{arith}
use Rattle.std.proofs.lemmas.Grind.{common_steps}
use Rattle.rn_declared.proofs.PatternLemmas.{all_both_more, all_both_past}
use Rattle.rn_declared.proofs.pattern.+both.Goals as goal

pub tuple_both-loop-i-preserved : goal.tuple_both-loop-i-preserved
tuple_both-loop-i-preserved t c =
    let more = all_both_more c.args.parts.now c.args.others.now c.loop-i.patterns.items c.loop-i.i
    c.index-parts-i.result (omega arith) c.index-parts-i.is in
    grind (arith, common_steps, more)

pub tuple_both-returns : goal.tuple_both-returns
tuple_both-returns t c =
    let past = all_both_past c.args.parts.now c.args.others.now c.loop-i.i (omega arith) in
    grind (arith, common_steps, past)
