use Rattle.std.proofs.Common.{◌+◌}
use Rattle.rn_live.specs.link.Marks.{is_start, is_start_below}
use Rattle.rn_live.proofs.FindLemmas.{then}
use Rattle.rn_live.proofs.StartLemmas.{start_more}
use Rattle.rn_live.proofs.starting.visit_starts.Goals as goal

pub loop-number-preserved : goal.loop-number-preserved
loop-number-preserved c =
    let m = c.args.table.now.marking in
    let starting = c.args.starting.now in
    let i = c.loop-number.number in
    then m (is_start_below m starting i) (is_start m starting i) (is_start_below m starting (i + 1))
    (start_more m starting i) c.loop-number.invariant c.visit_start.ensures
