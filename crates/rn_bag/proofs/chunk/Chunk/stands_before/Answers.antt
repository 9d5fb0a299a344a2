use Rattle.std.proofs.Common.{◌-◌, length, ap, arith}
use Rattle.rn_bag.proofs.CutLemmas.{last_before}
use Rattle.rn_bag.proofs.chunk.Chunk.stands_before.Goals as goal

pub returns-clause-before : goal.returns-clause-before
returns-clause-before c =
    last_before c.args.cut c.args.key.now c.index-values-values.result c.values-values.result.now c.args.self.now.values
    (length c.values-values.result.now - 1) c.stands_before.result c.values-values.ensures.value c.requires
    (omega (arith, c.values-values.ensures.room.filled, ap length c.values-values.ensures.value)) c.index-values-values.is (cc)
