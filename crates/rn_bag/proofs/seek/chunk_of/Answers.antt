use Rattle.std.proofs.Common.{◌+◌, ◌-◌, ◌/◌, arith}
use Rattle.rn_bag.proofs.SlotIndexLemmas.{chunk_ascends, chunks_up}
use Rattle.rn_bag.proofs.seek.chunk_of.Goals as goal

pub stands_before-requires : goal.stands_before-requires
stands_before-requires c = chunk_ascends c.args.chunks.now (c.loop-low.low + (c.loop-low.high - c.loop-low.low) / 2) c.at.result c.requires (omega arith) c.at.ensures.chunk

pub loop-low-preserved-then-stands_before : goal.loop-low-preserved-then-stands_before
loop-low-preserved-then-stands_before c =
    (omega arith, c.loop-low.invariant.1, chunks_up c.args.cut c.args.key.now c.args.chunks.now (c.loop-low.low + (c.loop-low.high - c.loop-low.low) / 2) c.at.result c.requires (omega arith) c.at.ensures.chunk c.stands_before.ensures.room.filled (c.stands_before.ensures.before.0 c.if-stands_before.true), c.loop-low.invariant.3)
