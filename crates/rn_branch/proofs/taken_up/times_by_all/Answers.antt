-- By those that are kept.
use Rattle.std.proofs.Common.{length, arith}
use Rattle.rn_branch.proofs.TakenTokens.{taken_in_front}
use Rattle.rn_branch.proofs.taken_up.times_by_all.Goals as goal

pub returns-clause-times : goal.returns-clause-times
returns-clause-times c =
    let taking = c.args.taking.now in
    let front = taken_in_front c.args.system.now taking.inst.now taking.place taking.token.now
    (length c.catch_up.new.self.counts.items) c.args.decisions.now in
    let few = c.times.ensures in omega (arith, front, few)
