use Rattle.std.proofs.Common.{arith, ◌+◌}
use Rattle.rn_choices.proofs.Measure.{bulk_positive}
use Rattle.rn_choices.proofs.searching.back.Goals as goal

pub returns-then-branch-clause-shrinks : goal.returns-then-branch-clause-shrinks
returns-then-branch-clause-shrinks g c =
    let grows = g.G.Grows in
    let some = bulk_positive (grows.room c.args.problem.now
    (grows.decisions c.args.problem.now c.args.state.now) + 1) in
    let less = c.in_ok-go_back.ensures.load c.if-branch.true in
    omega arith
