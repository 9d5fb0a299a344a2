use Rattle.std.proofs.Common.{◌≡◌, ◌<◌, ◌+◌, length, take, subst, arith}
use Rattle.rn_bag.specs.Slots.{there_from}
use Rattle.rn_bag.specs.Words.{has_bit}
use Rattle.rn_bag.proofs.chunk.Chunk.slot_of.Goals as goal

pub returns-clause-after : goal.returns-clause-after
returns-clause-after c =
    let next : c.loop-high.high ≡ c.loop-high.low + 1 = omega (arith, c.loop-high.invariant.ordered) in
    subst
    (λ k. c.args.index
    < length (there_from (has_bit c.args.self.now.there) 0 (take k c.args.self.now.values)))
    next c.loop-high.invariant.after
