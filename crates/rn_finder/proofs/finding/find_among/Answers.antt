use Rattle.std.proofs.Common.{arith}
use Rattle.rn_finder.specs.Starting.{IsNoStart, start_of}
use Rattle.rn_finder.proofs.StartingBindings.{one_more}
use Rattle.rn_finder.proofs.finding.find_among.Goals as goal

pub loop-t-preserved : goal.loop-t-preserved
loop-t-preserved g c =
    one_more
    (λ k. IsNoStart c.args.marked.system.now c.args.marked.table.now.marking c.args.marked.depth
    (start_of c.args.first.inst.now.number c.args.first.inst.now.net k))
    c.args.first.transition c.loop-t.t c.loop-t.invariant
    (rw c.in_default.is at c.in_ok-found.ensures.none)

pub returns-clause-none : goal.returns-clause-none
returns-clause-none g c = λ k least below. c.loop-t.invariant k least (omega arith)
