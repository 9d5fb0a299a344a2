use Rattle.std.proofs.Common.{◌∙◌, false, arith}
use Rattle.std.proofs.Math.ListN.{length-set}
use Rattle.rn_live.proofs.FindLemmas.{one_unmarked, all_unmarked}
use Rattle.rn_live.proofs.found.unmark.Goals as goal

pub loop-at-preserved : goal.loop-at-preserved
loop-at-preserved c =
    let marks = c.loop-at.marks.items in
    let at = c.loop-at.at in
    record {
      size = length-set marks at false ∙ c.loop-at.invariant.size;
      none = one_unmarked marks at c.loop-at.invariant.none;
    }

pub returns-clause-none : goal.returns-clause-none
returns-clause-none c =
    all_unmarked c.loop-at.marks.items c.loop-at.at (omega (arith, c.loop-at-test.false, c.len-at-end.ensures, c.loop-at.invariant.size, c.args.marks.now.ok.0)) c.loop-at.invariant.none
